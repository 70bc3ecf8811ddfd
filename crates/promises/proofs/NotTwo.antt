-- Document 01, Refusals: 2 is "table too short", so only who is lent a table answers it. Stage by stage, no other gives it.
-- Assumes nothing.
use Prim.Native.Nat.{ℕ, zero, suc, ◌+◌, ◌≤◌}
use native.Mathlib.Omega.{arith}
use mathlib.Core.Path.{◌≡◌, refl, ◌∙◌}
use mathlib.Core.Bool.{Bool, true, false, cond, ◌&&◌, not}
use mathlib.Core.List.{List, [], ◌∷◌}
use lib.ListN.{length, take, drop}
use lib.Dec.{ltb, eqb}
use lib.IntN.{ℤ}
use borrow.Author.Tests.{eqb-false, le-ltb}
use Rattle.base.proofs.Cases.{by_bool, never}
use Rattle.refusal.specs.Answer.{Answer, given, refused, map, then}
use Rattle.number.specs.Stored.{value_of}
use Rattle.ber.specs.Read.{Read, got, broken, read_length}
use Rattle.checksum.specs.Sum.{checksum_of}
use Rattle.tagset.specs.Sets.{holds}
use Rattle.tagset.specs.declared.TagSet.{TagSet}
use Rattle.catalogue.specs.Shapes.{shape_of, size_allowed, code_allowed}
use Rattle.catalogue.specs.declared.Item as catalogue
use Rattle.knowing.specs.Good.{good}
use Rattle.catalogue.specs.Extended.{is_extended, in_reach}
use Rattle.catalogue.specs.Shapes.{length_allowed}
use Rattle.scale.specs.Scales.{beyond}
use Rattle.scale.specs.Extended.{low_end, high_end}
use Rattle.scale.specs.Conversions.{scaled_item, converted, by_length, height_given, to_house, sent_given, to_code}
use Rattle.rows.specs.Meaning.{shape_for}
use Rattle.rows.specs.declared.RowWords.{RowWords}
use Rattle.rows.specs.Taken.{row_good, count_good}
use Rattle.packet.specs.Pieces.{Piece, Item, pieces, Step, no_tag, no_length, one, read_item, item_at, onward, walk}
use Rattle.packet.specs.Ends.{right_ends}
use Rattle.packet.specs.declared.Ends.{Ends}
use Rattle.packet.specs.Structure.{key, same, last_of, outer_by, frame, right_sum, last_sum, structure}
use Rattle.packet.specs.Judge.{Knowing, has, among, clean, wrong, fault_of, Judged, fine, faulty, no_version, later, on_fault, judge_from, judge}
use Rattle.packet.specs.Verdict.{placed, verdict, received, checked}
use Rattle.packet.specs.Encode.{encode}
use Rattle.rows.specs.Present.{present_in}
use Rattle.packet.specs.Rows.{rows_in, pieces_of, lent_verdict, read_answer}
use Rattle.outgoing.specs.Outgoing.{right_rows, agrees, by_row, sendable, outgoing_with, outgoing}
use Rattle.writer.specs.Writes.{written_with, write_answer_with, written, write_answer}
use Rattle.relay.specs.Forwards.{own_table, forward_answer}
use Rattle.ground.specs.Ground.{from_rows}
use Rattle.listing.specs.Lists.{text_answer}
use Rattle.std.specs.Prelude.{Option, Some, None}

-- an answer that is no refusal numbered 2
pub data NotTwo {A : Type 0} : Answer A → Type 0 where
  gives : {a : A} → NotTwo (given a)
  other : {n p t : ℕ} → eqb n 2 ≡ false → NotTwo (refused n p t)

-- which is what it says
pub never_two : {A : Type 0} {a : Answer A} {n p t : ℕ} → NotTwo a → refused n p t ≡ a → n ≡ 2 → ⊥
never_two gives e = never (cc)
never_two {n} (other {n = m} h) e = λ two. eqb-false m 2 h (let same : m ≡ n = cc in same ∙ two)

by_test : {A : Type 0} (b : Bool) {x y : Answer A} → NotTwo x → NotTwo y → NotTwo (cond b x y)
by_test true h k = h
by_test false h k = k

by_map : {A B : Type 0} (f : A → B) {a : Answer A} → NotTwo a → NotTwo (map f a)
by_map f gives = gives
by_map f (other h) = other h

by_then : {A B : Type 0} {f : A → Answer B} {a : Answer A} → NotTwo a → ((x : A) → NotTwo (f x)) → NotTwo (then a f)
by_then gives k = k _
by_then (other h) k = other h

-- 6, 7, 8
walk_not : (n at : ℕ) (l : List ℕ) → NotTwo (walk n at l)
unfolding walk
walk_not zero at l = by_test (ltb 0 (length l)) (other refl) gives
walk_not (suc n) at l = by_test (ltb 0 (length l)) (by_step (λ a r. walk_not n a r) (read_item l)) gives
  where
    by_step : ((a : ℕ) (r : List ℕ) → NotTwo (walk n a r)) → (s : Step) → NotTwo (onward (λ a r. walk n a r) at l s)
    by_step rest no_tag = other refl
    by_step rest (no_length t) = other refl
    by_step rest (one t h m) = by_map (λ is. item_at at l t h m ∷ is) (rest _ _)

-- 3, 4, 5
frame_not : (p : List ℕ) → NotTwo (frame p)
unfolding frame
frame_not p = by_test (ltb 8192 (length p)) (other refl) (by_test (same (take 16 p) key) (outer (read_length (drop 16 p))) (other refl))
  where
    outer : (r : Read) → NotTwo (outer_by p r)
    outer broken = other refl
    outer (got n s) = by_test (eqb (length p) (16 + s + n)) gives (other refl)

-- 9, 10
ends_not : (e : Ends) → NotTwo (right_ends e)
unfolding right_ends
ends_not e = by_test (eqb e.first 2) (by_test (eqb e.last 1 && eqb e.size 2) gives (other refl)) (other refl)

-- 11
sum_not : (p : List ℕ) (is : List Item) → NotTwo (last_sum p is)
unfolding right_sum
sum_not p [] = gives
sum_not p (i ∷ is) = by_test (eqb (value_of (last_of i is).piece.value) (checksum_of (take (last_of i is).place p))) gives (other refl)

structure_not : (p : List ℕ) → NotTwo (structure p)
unfolding structure
structure_not p =
    by_then (frame_not p) (λ from. by_then (walk_not 128 from (drop from p))
    (λ is. by_then (ends_not _) (λ _. by_then (sum_not p is) (λ _. gives))))

later_not : (j : Judged) → NotTwo (by_row j) → NotTwo (by_row (later j))
later_not fine h = gives
later_not (faulty k n t) (other h) = other h
later_not no_version h = other refl

-- 12, 13, 14, by the tests of an item
item_not : (known sized twice coded : Bool) (t : ℕ) (j : Judged) → NotTwo (by_row j)
    → NotTwo (by_row (on_fault (cond known (cond sized (cond twice (wrong 13) (cond coded clean (wrong 14))) (wrong 12)) clean) t j))
item_not true false twice coded t j h = other refl
item_not true true true coded t j h = other refl
item_not true true false false t j h = other refl
item_not true true false true t j h = later_not j h
item_not false sized twice coded t j h = later_not j h

judge_not : (K : Knowing) (seen : List ℕ) (cs : List Piece) → NotTwo (by_row (judge_from K seen cs))
unfolding judge_from fault_of
judge_not K seen [] = last (has 65 seen)
  where
    last : (b : Bool) → NotTwo (by_row (cond b fine no_version))
    last true = gives
    last false = other refl
judge_not K seen (c ∷ cs) = item_not (K c.tag) (size_allowed c.tag (shape_of c.tag) (length c.value)) (among seen c.tag)
    (code_allowed c.tag (length c.value) (value_of c.value)) c.tag (judge_from K (c.tag ∷ seen) cs) (judge_not K (c.tag ∷ seen) cs)

-- and 15, of items as of rows
placed_not : (is : List Item) (j : Judged) → NotTwo (by_row j) → NotTwo (placed is j)
placed_not is fine h = gives
placed_not is (faulty k n t) (other h) = other h
placed_not is no_version h = other refl

-- 1, and all that a receiver answers that is lent no table
module _ (K : TagSet) (p : List ℕ) where
  received_not : NotTwo (received K p)
  unfolding received verdict judge
  received_not =
      by_test (good K) (by_then (structure_not p) (λ is. placed_not is (judge_from (holds K) [] (pieces is)) (judge_not (holds K) [] (pieces is)))) (other refl)

  pub checked_not : NotTwo (checked K p)
  unfolding checked
  checked_not = by_map _ received_not

  pub rows_not : {A : Type 0} (f : List RowWords → A) → NotTwo (from_rows f K p)
  unfolding from_rows
  rows_not f = by_map _ received_not

  -- who is lent a table of at least 512 words
  pub read_not : (t : List ℕ) → 512 ≤ length t → NotTwo (read_answer K p t)
  unfolding read_answer lent_verdict received
  read_not t long = by_map _ {a = lent_verdict K p t} (rw (le-ltb (length t) 512 long) received_not)

-- 17
good_not : (K : Knowing) (room k : ℕ) (rs : List RowWords) → NotTwo (right_rows K room k rs)
unfolding right_rows
good_not K room k [] = gives
good_not K room k (r ∷ rs) = by_test (row_good (shape_for K r.tag) room r) (good_not K room (suc k) rs) (other refl)

-- 3, 9, 10, 12 to 15 of pieces
sendable_not : (K : Knowing) (cs : List Piece) → NotTwo (sendable K cs)
unfolding sendable judge
sendable_not K cs =
    by_then (by_test (ltb 8192 (length (encode cs))) (other refl) gives) (λ _. by_then (ends_not _) (λ _. by_then (judge_not K [] cs) (λ _. gives)))

module _ (K : TagSet) (h : Option TagSet) (count : ℕ) (words b o : List ℕ) where
  -- 1, 16 and 22
  outgoing_not : NotTwo (outgoing_with K h count words b)
  outgoing_not =
      by_then (by_test (good K) gives (other refl)) (λ _. by_then (by_test (count_good count (length words)) gives (other refl))
      (λ _. by_then (good_not (holds K) (length b) 0 (rows_in 0 count words))
      (λ _. by_then (by_test (agrees h (present_in (rows_in 0 count words))) gives (other refl))
      (λ _. sendable_not (holds K) (pieces_of (holds K) b (rows_in 0 count words))))))

  -- 18
  pub handed_not : NotTwo (write_answer_with K h count words b o)
  unfolding write_answer_with written_with
  handed_not = by_map _ (by_then outgoing_not (λ cs. by_test (ltb (length o) (length (encode cs))) (other refl) gives))

pub write_not : (K : TagSet) (count : ℕ) (words b o : List ℕ) → NotTwo (write_answer K count words b o)
unfolding write_answer write_answer_with written written_with outgoing
write_not K count words b o = handed_not K None count words b o

pub forward_not : (K : TagSet) (p o : List ℕ) → NotTwo (forward_answer K p o)
unfolding forward_answer
forward_not K p o = by_then (read_not K p own_table (omega arith)) (λ done. write_not K done.count _ p o)

-- 19 and 20 or 21
converted_not : {A : Type 0} (n tag : ℕ) (test : catalogue.Item → Bool) (give : catalogue.Item → A) (f : Option catalogue.Item) → eqb n 2 ≡ false
    → NotTwo (converted n tag test give f)
converted_not n tag test give (Some i) h = by_test (test i) gives (other h)
converted_not n tag test give None h = other refl

length_not : {A : Type 0} (k tag n : ℕ) (test : Bool) (give : A) → eqb k 2 ≡ false → NotTwo (by_length k tag n test give)
length_not k tag n test give e = by_test (length_allowed tag n) (by_test test gives (other e)) (other refl)

pub house_not : (tag n code : ℕ) → NotTwo (to_house tag n code)
unfolding to_house
house_not tag n code =
    by_bool (is_extended tag)
    (λ x. rw x (length_not 20 tag n (in_reach n code) (height_given n code) refl))
    (λ x. rw x (converted_not 20 tag _ _ (scaled_item tag) refl))

pub code_not : (tag n : ℕ) (v : ℤ) → NotTwo (to_code tag n v)
unfolding to_code
code_not tag n v =
    by_bool (is_extended tag)
    (λ x. rw x (length_not 21 tag n (not (beyond low_end high_end v)) (sent_given n v) refl))
    (λ x. rw x (converted_not 21 tag _ _ (scaled_item tag) refl))

-- 18 alone
pub text_not : (text o : List ℕ) → NotTwo (text_answer text o)
unfolding text_answer
text_not text o = by_test (ltb (length o) (length text)) (other refl) gives
