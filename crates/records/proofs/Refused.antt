-- What the writer over records refuses by its cover alone: over 128 records, and a part that a word cannot hold; and which record gets 17.
-- Assumes nothing.
use Prim.Native.Nat.{ℕ, zero, suc, ◌+◌, ◌^◌, ◌<◌, ◌≤◌}
use native.Mathlib.Omega.{arith}
use mathlib.Core.Path.{◌≡◌, refl, ap, ◌∙◌}
use mathlib.Core.Bool.{Bool, true, false, ◌&&◌}
use mathlib.Core.List.{List}
use lib.Dec.{ltb, eqb}
use lib.ListN.{length, get_or}
use borrow.Author.Tests.{ne_eqb, lt-leb, le-ltb}
use Rattle.base.proofs.Cases.{by_bool, by_eq}
use Rattle.refusal.specs.Answer.{refused}
use Rattle.tagset.specs.Sets.{holds}
use Rattle.tagset.specs.declared.TagSet.{TagSet}
use Rattle.knowing.specs.Good.{good}
use Rattle.catalogue.specs.declared.Shape.{Shape}
use Rattle.catalogue.specs.declared.Shape.TheVariants.{Text, Number, Absent}
use Rattle.catalogue.specs.Shapes.{is_empty}
use Rattle.rows.specs.Meaning.{Meaning, shape_for, value_as, kind_of, kind_for, mark_code, reading_kind, mark_kind, withdrawn_kind}
use Rattle.rows.specs.declared.RowWords.{RowWords}
use Rattle.rows.specs.Taken.{tag_good, row_good, tag_shown, row_at, GoodRow}
use Rattle.rows.specs.declared.Part.{Part}
use Rattle.rows.specs.declared.Row.{Row}
use Rattle.packet.specs.Judge.{Knowing}
use Rattle.packet.specs.Rows.{rows_in}
use Rattle.outgoing.specs.Outgoing.{right_rows, outgoing}
use Rattle.writer.specs.Writes.{written}
use Rattle.records.specs.Images.{says_for, part_in, holdable, no_kind, row_saying, image_of, none, image_table}
use Rattle.records.proofs.Same.{table_at, count_fits}

-- "a list of over 128 records gets 16"
pub too_many : (K : TagSet) (rs : List Row) (b : List ℕ) (room : ℕ) → good K ≡ true → 128 < length rs
    → written K (length rs) (image_table rs) b room ≡ refused 16 0 0
unfolding written outgoing
too_many K rs b room s h = rw (s, lt-leb _ _ h)

-- every shape gives every code and every length a kind
kind_valued : (s : Shape) (code n : ℕ) → no_kind ≡ kind_of (value_as {A = Unit {0}} s code n tt) → ⊥
kind_valued (Number least most marked) code n e =
    by_bool (marked && eqb code (mark_code most))
    (λ m. let z : no_kind ≡ mark_kind = rw m at e in omega (arith, z))
    (λ m. let z : no_kind ≡ reading_kind = rw m at e in omega (arith, z))
kind_valued Text code n e = omega (arith, e)
kind_valued Absent code n e = omega (arith, e)

kind_some : (s : Shape) (code n : ℕ) → no_kind ≡ kind_for s code n → ⊥
kind_some s code n e =
    by_bool (is_empty s n)
    (λ m. let z : no_kind ≡ withdrawn_kind = rw m at e in omega (arith, z))
    (λ m. kind_valued s code n (rw m at e))

with_false : (a : Bool) → a && false ≡ false
with_false true = refl
with_false false = refl

-- what a word cannot hold makes a bad row for every receiver and every buffer
pub unheld_bad : (s : Shape) (room tag : ℕ) (m : Meaning Part) → holdable (part_in m) ≡ false → row_good s room (row_saying tag m) ≡ false
unfolding row_good
unheld_bad s room tag m e = rw (e, ne_eqb no_kind (kind_for s 0 0) (kind_some s 0 0)) (with_false (tag_good tag))

pub large_place_bad : (s : Shape) (room tag : ℕ) (m : Meaning Part) → 2 ^ 48 ≤ (part_in m).place → row_good s room (row_saying tag m) ≡ false
large_place_bad s room tag m h = unheld_bad s room tag m (rw (le-ltb (part_in m).place (2 ^ 48) h))

pub long_part_bad : (s : Shape) (room tag : ℕ) (m : Meaning Part) → 65536 ≤ (part_in m).length → row_good s room (row_saying tag m) ≡ false
long_part_bad s room tag m h = unheld_bad s room tag m (rw (le-ltb (part_in m).length 65536 h) (with_false (ltb (part_in m).place (2 ^ 48))))

-- ---- the first bad row gets 17 with its number and its tag
module _ (K : Knowing) (b : List ℕ) where
  first_bad_row : (k n : ℕ) (t : List ℕ) (j : ℕ) → k ≤ j → j < k + n → ((i : ℕ) → k ≤ i → i < j → GoodRow K b (row_at t i))
      → row_good (shape_for K (row_at t j).tag) (length b) (row_at t j) ≡ false
      → right_rows K (length b) k (rows_in k n t) ≡ refused 17 j (tag_shown (row_at t j).tag)
  unfolding right_rows rows_in
  first_bad_row k zero t j l m g f = absurd (omega (arith, l, m))
  first_bad_row k (suc n) t j l m g f =
      by_eq k j
      (λ same. rw (same, f))
      (λ other. rw (g k (omega arith) (omega (arith, l, other)))
      (first_bad_row (suc k) n t j (omega (arith, l, other)) (omega (arith, m)) (λ i o. g i (omega (arith, o))) f))

image_tag : (r : Row) → (image_of r).tag ≡ r.tag
unfolding image_of
image_tag r = by_bool (holdable (part_in (says_for r.tag r.content))) (λ e. rw e) (λ e. rw e)

module _ (K : TagSet) (rs : List Row) (b : List ℕ) (room k : ℕ) (right : good K ≡ true) (few : length rs ≤ 128) (one : k < length rs)
    (earlier : (j : ℕ) → j < k → GoodRow (holds K) b (image_of (get_or rs j none))) where
  -- of up to 128 records, the first whose image is bad
  pub first_bad : row_good (shape_for (holds K) (image_of (get_or rs k none)).tag) (length b) (image_of (get_or rs k none)) ≡ false
      → written K (length rs) (image_table rs) b room ≡ refused 17 k (tag_shown (get_or rs k none).tag)
  unfolding written outgoing
  first_bad f =
      let at : (j : ℕ) → j ≤ k → row_at (image_table rs) j ≡ image_of (get_or rs j none) = λ j l. table_at rs few j (omega (arith, l, one)) in
      let tag : (row_at (image_table rs) k).tag ≡ (get_or rs k none).tag = ap (λ (x : RowWords). x.tag) (at k (omega arith)) ∙ image_tag (get_or rs k none) in
      let before : (j : ℕ) → 0 ≤ j → j < k → GoodRow (holds K) b (row_at (image_table rs) j) = λ j _ l. rw (at j (omega (arith, l))) (earlier j l) in
      let bad : row_good (shape_for (holds K) (row_at (image_table rs) k).tag) (length b) (row_at (image_table rs) k) ≡ false = rw (at k (omega arith)) f in
      rw (right, count_fits rs few, first_bad_row (holds K) b 0 (length rs) (image_table rs) k (omega arith) (omega (arith, one)) before bad, tag)

  -- and so one that no word can hold
  pub unheld_refused : holdable (part_in (says_for (get_or rs k none).tag (get_or rs k none).content)) ≡ false
      → written K (length rs) (image_table rs) b room ≡ refused 17 k (tag_shown (get_or rs k none).tag)
  unfolding image_of
  unheld_refused e = first_bad (unheld_bad _ (length b) (get_or rs k none).tag (says_for (get_or rs k none).tag (get_or rs k none).content) e)
