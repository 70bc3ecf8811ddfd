-- What a receiver has read it can write and send on, and what is sent on is read as the packet was.
-- Assumes nothing.
use Prim.Native.Nat.{ℕ, ◌≤◌}
use native.Mathlib.Omega.{arith}
use mathlib.Core.Path.{◌≡◌, ap, sym, ◌∙◌}
use mathlib.Core.Bool.{false}
use mathlib.Core.List.{List, ◌++◌}
use lib.ListN.{length, take, drop}
use lib.Seq.{take-append_seam}
use lib.Dec.{ltb}
use borrow.Author.Tests.{le-ltb}
use Rattle.refusal.specs.Answer.{given}
use Rattle.refusal.proofs.Answers.{Steps, given_same, missed, then_given}
use Rattle.number.specs.Stored.{Bytes}
use Rattle.tagset.specs.Sets.{holds}
use Rattle.tagset.specs.declared.TagSet.{TagSet}
use Rattle.packet.specs.Encode.{canonical}
use Rattle.packet.specs.Rows.{Filled, lent_verdict, read_answer, read_table}
use Rattle.laws.specs.Receivers.{SameReading}
use Rattle.laws.proofs.Forward.{forward_shorter}
use Rattle.laws.proofs.Sent.{sent_canonical}
use Rattle.laws.proofs.Tables.{has_read}
use Rattle.laws.proofs.Readings.{sent_reading}
use Rattle.writer.specs.Writes.{write_answer, write_output}
use Rattle.writer.specs.declared.Written.{Written}
use Rattle.relay.specs.Forwards.{own_table, forward_answer, forward_output}
use Rattle.relay.proofs.Sending.{write_sends, forward_is}

-- room as long as the packet is enough, since what is sent on is never longer
enough : (K : TagSet) (p t o : List ℕ) (done : Filled) → Bytes p → read_answer K p t ≡ given done → length p ≤ length o
    → ltb (length o) (length (canonical p)) ≡ false
enough K p t o done by e room =
    let r = has_read K p t done e in
    le-ltb (length o) (length (canonical p)) (omega (arith, forward_shorter (holds K) p r.items by r.accepted))

-- all of a packet that is sent on
abbrev pub whole : List ℕ → Written
whole p = record { size = length (canonical p) }

-- demand 2: with the packet as buffer and output room as long as the packet a table that a reader made is written, and no refusal
pub read_written : (K : TagSet) (p t : List ℕ) (done : Filled) → Bytes p → read_answer K p t ≡ given done → (o : List ℕ) → length p ≤ length o
    → (write_answer K done.count (read_table K p t) p o ≡ given (whole p))
    × (write_output K done.count (read_table K p t) p o ≡ canonical p ++ drop (length (canonical p)) o)
read_written K p t done by e o room = rw (enough K p t o done by e room) at (write_sends K p t done by e o)

-- who has read a packet into some table reads it into the relay's own
pub own_read : (K : TagSet) (p t : List ℕ) (done : Filled) → read_answer K p t ≡ given done → read_answer K p own_table ≡ given done
unfolding read_answer lent_verdict
own_read K p t done e = let r = has_read K p t done e in rw (r.right, r.accepted) (ap given r.filled)

-- demand 2 and 3 for the relay, whose table is its own
module _ (K : TagSet) (p o : List ℕ) (by : Bytes p) where
  -- given room as long as the packet, what is accepted is sent on
  pub forward_sends : (done : Filled) → read_answer K p own_table ≡ given done → length p ≤ length o
      → (forward_answer K p o ≡ given (whole p)) × (forward_output K p o ≡ canonical p ++ drop (length (canonical p)) o)
  forward_sends done e room = rw (enough K p own_table o done by e room) at (forward_is K p by o done e)

  -- the bytes that are sent on, whatever room there was
  module _ (sent : Written) (e : forward_answer K p o ≡ given sent) where
    abbrev read_first : Steps (read_answer K p own_table) (λ done. write_answer K done.count (read_table K p own_table) p o) sent
    unfolding forward_answer
    read_first = then_given (read_answer K p own_table) _ e

    pub sent_bytes : take sent.size (forward_output K p o) ≡ canonical p
    sent_bytes =
        let s = forward_is K p by o read_first.between read_first.first in
        let m = missed (ltb (length o) (length (canonical p))) (given (whole p)) 18 0 0 (sym s.0 ∙ e) in
        let k : sent.size ≡ length (canonical p) = ap (λ w. w.size) (sym (given_same m.1)) in
        rw (k, s.1, m.0) (take-append_seam (canonical p) (drop (length (canonical p)) o))

    -- demand 3: whoever gets the packet sent on reads the same table, or refuses with the same number and tag, places and checksum aside
    pub forward_reading : (K' : TagSet) (t t' : List ℕ) → 512 ≤ length t → 512 ≤ length t'
        → SameReading p (take sent.size (forward_output K p o)) (read_answer K' p t) (read_table K' p t)
        (read_answer K' (take sent.size (forward_output K p o)) t') (read_table K' (take sent.size (forward_output K p o)) t')
    forward_reading K' t t' long long' =
        rw (sent_bytes, ← (sent_canonical K p own_table read_first.between by read_first.first))
        (sent_reading K K' p own_table t t' read_first.between by read_first.first long long')
