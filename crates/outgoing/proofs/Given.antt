-- What it says of a table that it is sent out, and what is enough for it.
-- Assumes nothing.
use Prim.Native.Nat.{ℕ, ◌≤◌}
use native.Mathlib.Omega.{arith}
use mathlib.Core.Path.{◌≡◌, refl, ap, ◌∙◌}
use mathlib.Core.Bool.{true}
use mathlib.Core.List.{List, [], ◌∷◌, ◌++◌}
use mathlib.Core.Logic.{◌⊎◌, inl, inr}
use lib.ListN.{length}
use lib.Dec.{ltb}
use borrow.Author.Tests.{ltb-false, le-ltb}
use Rattle.base.proofs.Cases.{by_bool, never}
use Rattle.base.specs.Every.{Each}
use Rattle.refusal.specs.Answer.{Answer, given, refused, then}
use Rattle.refusal.proofs.Answers.{not_given, given_same, passed, missed, then_given}
use Rattle.tagset.specs.Sets.{holds}
use Rattle.tagset.specs.declared.TagSet.{TagSet}
use Rattle.knowing.specs.Good.{good}
use Rattle.rows.specs.declared.RowWords.{RowWords}
use Rattle.rows.specs.Taken.{count_good, GoodRow}
use Rattle.rows.specs.Present.{present_in}
use Rattle.packet.specs.Pieces.{Piece}
use Rattle.packet.specs.Ends.{right_ends}
use Rattle.packet.specs.Judge.{Knowing, Judged, fine, faulty, no_version, judge}
use Rattle.packet.specs.Encode.{encode}
use Rattle.packet.specs.Rows.{rows_in, pieces_of}
use Rattle.packet.proofs.Closing.{RightEnds, ends_right, right-ends}
use Rattle.outgoing.specs.Outgoing.{right_set, right_count, right_rows, agrees, right_words, right_size, last_piece, ends_of, by_row}
use Rattle.outgoing.specs.Outgoing.{sendable, outgoing_with, outgoing}
use Rattle.outgoing.proofs.Stages.{all_good, good_all}
use Rattle.std.specs.Prelude.{Option, None}

-- the first piece is the time stamp
pub record Begins (cs : List Piece) : Type 0 where
  pub first : Piece
  pub others : List Piece
  pub parts : cs ≡ first ∷ others
  pub time : first.tag ≡ 2

-- the last is a checksum
pub record Closes (cs : List Piece) : Type 0 where
  pub front : List Piece
  pub last : Piece
  pub parts : cs ≡ front ++ (last ∷ [])
  pub checksum : last.tag ≡ 1
  pub pair : length last.value ≡ 2

-- pieces that are sent
pub record Sent (K : Knowing) (cs : List Piece) : Type 0 where
  pub small : length (encode cs) ≤ 8192
  pub start : Begins cs
  pub end : Closes cs
  pub faultless : judge K cs ≡ fine

-- the last of some pieces, after those in front of it
split_last : (c : Piece) (cs : List Piece) → (front : List Piece) × (c ∷ cs ≡ front ++ (last_piece c cs ∷ []))
split_last c [] = ([], refl)
split_last c (d ∷ ds) = let r = split_last d ds in (c ∷ r.0, ap (λ l. c ∷ l) r.1)

last_after : (c : Piece) (front : List Piece) (z : Piece) → last_piece c (front ++ (z ∷ [])) ≡ z
last_after c [] z = refl
last_after c (d ∷ front) z = last_after d front z

judged_then : (j : Judged) → by_row j ≡ given tt → j ≡ fine
judged_then fine e = refl
judged_then (faulty k n t) e = not_given e
judged_then no_version e = not_given e

pub sendable_then : (K : Knowing) (ds cs : List Piece) → sendable K ds ≡ given cs → Sent K ds × (ds ≡ cs)
unfolding sendable
sendable_then K ds cs e =
    let f = then_given (right_size (length (encode ds))) _ e in
    let l = then_given (right_ends (ends_of ds)) _ f.second in
    let j = then_given (by_row (judge K ds)) _ l.second in
    let small = missed (ltb 8192 (length (encode ds))) (given tt) 3 0 0 f.first in
    (sent ds (ends_right (ends_of ds) l.first) (ltb-false _ _ small.0) (judged_then (judge K ds) j.first), given_same j.second)
  where
    sent : (ds : List Piece) → RightEnds (ends_of ds) → length (encode ds) ≤ 8192 → judge K ds ≡ fine → Sent K ds
    sent [] ends small j = absurd (let z : 0 ≡ 2 = ends.time in omega arith)
    sent (d ∷ ds) ends small j =
        let last = split_last d ds in
        record {
          small = small;
          start = record { first = d; others = ds; parts = refl; time = ends.time };
          end = record { front = last.0; last = last_piece d ds; parts = last.1; checksum = ends.checksum; pair = ends.pair };
          faultless = j;
        }

-- and a table
pub record Outgoes (K : TagSet) (count : ℕ) (words b : List ℕ) : Type 0 where
  pub knows : good K ≡ true
  pub counted : count_good count (length words) ≡ true
  pub rows : Each (GoodRow (holds K) b) (rows_in 0 count words)
  pub pieces : Sent (holds K) (pieces_of (holds K) b (rows_in 0 count words))

-- whatever was handed agreed
pub handed_then : (K : TagSet) (h : Option TagSet) (count : ℕ) (words b : List ℕ) (cs : List Piece) → outgoing_with K h count words b ≡ given cs
    → Outgoes K count words b × (pieces_of (holds K) b (rows_in 0 count words) ≡ cs) × (agrees h (present_in (rows_in 0 count words)) ≡ true)
handed_then K h count words b cs e =
    let rs : List RowWords = rows_in 0 count words in
    let k = then_given (right_set K) _ e in
    let n = then_given (right_count count words) _ k.second in
    let g = then_given (right_rows (holds K) (length b) 0 rs) _ n.second in
    let w = then_given (right_words h rs) _ g.second in
    let s = sendable_then (holds K) (pieces_of (holds K) b rs) cs w.second in
    let set = passed (good K) (given tt) 1 0 0 k.first in
    let few = passed (count_good count (length words)) (given tt) 16 0 0 n.first in
    let agreed = passed (agrees h (present_in rs)) (given tt) 22 0 0 w.first in
    (record { knows = set.0; counted = few.0; rows = all_good (holds K) b 0 rs g.first; pieces = s.0 }, s.1, agreed.0)

pub outgoing_then : (K : TagSet) (count : ℕ) (words b : List ℕ) (cs : List Piece) → outgoing K count words b ≡ given cs
    → Outgoes K count words b × (pieces_of (holds K) b (rows_in 0 count words) ≡ cs)
unfolding outgoing
outgoing_then K count words b cs e = let o = handed_then K None count words b cs e in (o.0, o.1)

-- the other way round
ends_sent : (cs : List Piece) → Begins cs → Closes cs → RightEnds (ends_of cs)
ends_sent [] s l = never (let q = s.parts in cc)
ends_sent (c ∷ cs) s l =
    let first : c ≡ s.first = (let w = s.parts in cc) in
    let last : last_piece c cs ≡ l.last = ap (last_piece c) l.parts ∙ last_after c l.front l.last in
    record {
      time = ap (λ (x : Piece). x.tag) first ∙ s.time;
      checksum = ap (λ (x : Piece). x.tag) last ∙ l.checksum;
      pair = ap (λ (x : Piece). length x.value) last ∙ l.pair;
    }

pub sent_sendable : (K : Knowing) (cs : List Piece) → Sent K cs → sendable K cs ≡ given cs
unfolding sendable
sent_sendable K cs s = rw (le-ltb 8192 (length (encode cs)) s.small, right-ends (ends_of cs) (ends_sent cs s.start s.end), s.faultless)

pub outgoes_given : (K : TagSet) (count : ℕ) (words b : List ℕ) → Outgoes K count words b
    → outgoing K count words b ≡ given (pieces_of (holds K) b (rows_in 0 count words))
unfolding outgoing
outgoes_given K count words b o =
    rw (o.knows, o.counted, good_all (holds K) b 0 (rows_in 0 count words) o.rows) (sent_sendable (holds K) _ o.pieces)

-- three stages, and what follows them: where that is 22, it is their refusal or 22
abbrev after : Answer (Unit {0}) → Answer (Unit {0}) → Answer (Unit {0}) → Answer (List Piece) → Answer (List Piece)
after u v w x = then u (λ _. then v (λ _. then w (λ _. x)))

after_22 : (u v w : Answer (Unit {0})) (x : Answer (List Piece))
    → (after u v w (refused 22 0 0) ≡ after u v w x) ⊎ (after u v w (refused 22 0 0) ≡ refused 22 0 0)
after_22 (refused n p t) v w x = inl refl
after_22 (given u) (refused n p t) w x = inl refl
after_22 (given u) (given v) (refused n p t) x = inl refl
after_22 (given u) (given v) (given w) x = inr refl

-- what was handed: where it agrees it changes nothing, and it can only bring 22 in
module _ (K : TagSet) (h : Option TagSet) (count : ℕ) (words b : List ℕ) where
  pub agreed_same : agrees h (present_in (rows_in 0 count words)) ≡ true → outgoing_with K h count words b ≡ outgoing K count words b
  unfolding outgoing
  agreed_same e = rw e

  pub same_or_22 : (outgoing_with K h count words b ≡ outgoing K count words b) ⊎ (outgoing_with K h count words b ≡ refused 22 0 0)
  unfolding outgoing
  same_or_22 =
      by_bool (agrees h (present_in (rows_in 0 count words)))
      (λ e. inl (agreed_same e))
      (λ e. rw e (after_22 (right_set K) (right_count count words) (right_rows (holds K) (length b) 0 (rows_in 0 count words)) _))
