-- What is sent on: for an accepted packet its pieces in their shortest form, where there is room for them, else the reader's refusal.
-- Assumes nothing.
use Prim.Native.Nat.{ℕ, ◌*◌, ◌≤◌}
use native.Mathlib.Omega.{arith}
use mathlib.Core.Path.{◌≡◌, refl, ap, sym, ◌∙◌}
use mathlib.Core.List.{List}
use lib.ListN.{length, drop, length-append}
use lib.Dec.{ltb, leb}
use borrow.Author.Tests.{le-leb}
use Rattle.base.proofs.Cases.{by_bool}
use Rattle.base.proofs.Every.{both_true}
use Rattle.refusal.specs.Answer.{given, refused, map, answer_said}
use Rattle.refusal.proofs.Answers.{passed, map_given, map_refused}
use Rattle.number.specs.Stored.{Bytes}
use Rattle.tagset.specs.Sets.{holds}
use Rattle.tagset.specs.declared.TagSet.{TagSet}
use Rattle.knowing.specs.Good.{good}
use Rattle.packet.specs.Pieces.{Item, pieces, walk}
use Rattle.packet.specs.Judge.{Knowing}
use Rattle.packet.specs.Verdict.{body_of, verdict, received, checked}
use Rattle.packet.specs.Encode.{longer_of, encode, canonical}
use Rattle.packet.specs.Allowed.{Formed}
use Rattle.packet.specs.Rows.{rows_in, rows_of, table_of, pieces_of, lent_verdict, Filled, filled_by, read_answer, read_table}
use Rattle.packet.specs.declared.Accepted.{Accepted}
use Rattle.packet.proofs.Accepting.{accepting}
use Rattle.laws.proofs.Accepted.{Accepts, accepts}
use Rattle.laws.proofs.Structure.{structure_formed}
use Rattle.laws.proofs.Written.{Sendable}
use Rattle.laws.proofs.Forward.{sendable, canonical_is}
use Rattle.laws.proofs.Rows.{rows_good}
use Rattle.laws.proofs.Sent.{rows_pieces}
use Rattle.laws.proofs.Tables.{HasRead, has_read, read_count, rows_in_table}
use Rattle.reader.proofs.Laws.{words_length}
use Rattle.outgoing.specs.Outgoing.{outgoing}
use Rattle.outgoing.proofs.Given.{Sent, Outgoes, outgoes_given}
use Rattle.writer.specs.Writes.{written, write_answer, write_output}
use Rattle.relay.specs.Forwards.{Forwards, own_table, forward_answer, forward_output}
use Rattle.packet.specs.Structure.{ItemsFrom}
use Rattle.relay.specs.code.Sends.{LongerBy, sent_answer, sent_output, Sends}
use Rattle.relay.proofs.Items.{all_longer}
use Rattle.std.specs.Prelude.{Result}
use Rattle.refusal.specs.declared.Refusal.{Refusal}
use Rattle.writer.specs.declared.Written.{Written}

table_long : (K : Knowing) (is : List Item) (t : List ℕ) → 4 * length is ≤ length (table_of K is t)
unfolding table_of
table_long K is t = rw length-append (omega (arith, words_length K is))

-- pieces that can be sent, and are without fault
all_sent : (K : Knowing) (p : List ℕ) (is : List Item) → Bytes p → Accepts K p is → Sent K (pieces is)
all_sent K p is by a =
    let s : Sendable (pieces is) = sendable p is by (structure_formed p is by a.found) in
    record {
      small = s.fits;
      start = record { first = s.first; others = s.others; parts = s.begins; time = s.time };
      end = record {
        front = s.front;
        last = s.last;
        parts = s.closes;
        checksum = s.checksum;
        pair = s.pair;
      };
      faultless = a.faultless;
    }

-- a table that a reader made of a packet
module _ (K : TagSet) (p t : List ℕ) (done : Filled) (by : Bytes p) (e : read_answer K p t ≡ given done) where
  abbrev n : ℕ
  n = done.count

  was_read : HasRead K p t done
  was_read = has_read K p t done e

  its_rows : rows_in 0 n (read_table K p t) ≡ rows_of (holds K) was_read.items
  its_rows = ap (rows_in 0 n) was_read.table ∙ rows_in_table (holds K) was_read.items t n (read_count was_read)

  its_pieces : pieces_of (holds K) p (rows_in 0 n (read_table K p t)) ≡ pieces was_read.items
  its_pieces = ap (pieces_of (holds K) p) its_rows ∙ rows_pieces (holds K) p was_read.items by was_read.accepted

  goes_out : Outgoes K n (read_table K p t) p
  goes_out =
      let a : Accepts (holds K) p was_read.items = accepts (holds K) p was_read.items was_read.accepted in
      let f : Formed p was_read.items = structure_formed p was_read.items by a.found in
      let long : 4 * n ≤ length (read_table K p t) = rw was_read.table (omega (arith, read_count was_read, table_long (holds K) was_read.items t)) in
      let few : n ≤ 128 = omega (arith, f.few, read_count was_read) in
      record {
        knows = was_read.right;
        counted = both_true (leb n 128) (leb (4 * n) (length (read_table K p t))) (le-leb n 128 few) (le-leb _ _ long);
        rows = rw its_rows (rows_good (holds K) p was_read.items by was_read.accepted);
        pieces = rw its_pieces (all_sent (holds K) p was_read.items by a);
      }

  goes_as : outgoing K n (read_table K p t) p ≡ given (pieces was_read.items)
  goes_as = outgoes_given K n (read_table K p t) p goes_out ∙ ap given its_pieces

  canonical_of : canonical p ≡ encode (pieces was_read.items)
  canonical_of = canonical_is p was_read.items by (accepts (holds K) p was_read.items was_read.accepted).found

  -- written with the packet as buffer: sent where there is room
  pub write_sends : (o : List ℕ) → (write_answer K done.count (read_table K p t) p o ≡ sent_answer (canonical p) o)
      × (write_output K done.count (read_table K p t) p o ≡ sent_output (canonical p) o)
  unfolding write_answer write_output written
  write_sends o =
      rw (goes_as, canonical_of)
      (by_bool (ltb (length o) (length (encode (pieces was_read.items)))) (λ b. rw b (refl, refl)) (λ b. rw b (refl, refl)))

-- the relay's table is its own: it answers as the check does
module _ (K : TagSet) (p : List ℕ) where
  own_received : lent_verdict K p own_table ≡ received K p
  unfolding lent_verdict received
  own_received = refl

  pub forward_refused : (o : List ℕ) (n a u : ℕ) → checked K p ≡ refused n a u → (r : Result Written Refusal) → answer_said r ≡ refused n a u → Forwards K p o r o
  unfolding checked read_answer forward_answer forward_output
  forward_refused o n a u e r s =
      let f : read_answer K p own_table ≡ refused n a u =
      ap (map (filled_by (holds K))) (own_received ∙ map_refused (body_of (holds K)) (received K p) n a u e) in
      record { answer = s ∙ sym (rw f); output = sym (rw f) }

  module _ (by : Bytes p) where
    pub forward_is : (o : List ℕ) (done : Filled) → read_answer K p own_table ≡ given done → (forward_answer K p o ≡ sent_answer (canonical p) o)
        × (forward_output K p o ≡ sent_output (canonical p) o)
    unfolding forward_answer forward_output
    forward_is o done e = rw e (write_sends K p own_table done by e o)

    -- a packet that the check accepts
    module _ (b : Accepted) (e : checked K p ≡ given b) where
      taken : (is : List Item) × (received K p ≡ given is) × (body_of (holds K) is ≡ b)
      unfolding checked
      taken = map_given (body_of (holds K)) (received K p) e

      items-from : ItemsFrom p b.from
      unfolding received
      items-from =
          let v = passed (good K) (verdict (holds K) p) 1 0 0 taken.1 in
          record {
            items = taken.0;
            found = (accepts (holds K) p taken.0 v.1).found;
            walked = ap (λ (x : Accepted). walk 128 x.from (drop x.from p)) (sym taken.2) ∙ (accepting K p taken.0 by taken.1).fills;
          }

      pub longer-by : LongerBy p b.from b.longer
      unfolding items-from
      longer-by =
          let e : longer_of taken.0 ≡ b.longer = ap (λ (x : Accepted). x.longer) taken.2 in
          record { walks = items-from; sizes = rw (← e) (all_longer p b.from items-from by) }

      pub forward_sent : (o : List ℕ) (r : Result Written Refusal) (o' : List ℕ) → Sends (canonical p) o r o' → Forwards K p o r o'
      unfolding read_answer
      forward_sent o r o' s =
          let f = forward_is o (filled_by (holds K) taken.0) (ap (map (filled_by (holds K))) (own_received ∙ taken.1)) in
          record { answer = s.answer ∙ sym f.0; output = s.output ∙ sym f.1 }
