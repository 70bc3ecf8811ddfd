-- Rows: what a good count says, the shape by the catalogue's column, and answers told apart.
-- Assumes nothing.
use Prim.Native.Nat.{ℕ, ◌*◌, ◌≤◌}
use mathlib.Core.Path.{◌≡◌, refl, ap, sym, ◌∙◌}
use mathlib.Core.Bool.{Bool, true, cond, ◌&&◌}
use mathlib.Core.List.{List}
use lib.Dec.{leb, eqb}
use borrow.Author.Tests.{leb-true, eq-eqb, ne_eqb}
use Rattle.base.proofs.Cases.{by_bool, by_eq, clash}
use Rattle.base.proofs.Every.{both_left, both_right}
use Rattle.catalogue.specs.code.Column.{shape_column, shape_in}
use Rattle.catalogue.specs.declared.Shape.{Shape}
use Rattle.catalogue.specs.declared.Shape.TheVariants.{Text, Number, Absent}
use Rattle.catalogue.proofs.Columns.{shape_in_column}
use Rattle.catalogue.specs.Shapes.{is_empty}
use Rattle.rows.specs.Meaning.{reading, mark, text, carried, withdrawn, shape_for, value_as, seen_as, mark_code, kind_of, kind_for, code_of}
use Rattle.rows.specs.Meaning.{is_number, said_by}
use Rattle.rows.specs.Taken.{count_good}

pub count-good : (count lent : ℕ) → count_good count lent ≡ true → (count ≤ 128) × (4 * count ≤ lent)
count-good count lent e = (leb-true _ _ (both_left (leb count 128) _ e), leb-true _ _ (both_right (leb count 128) _ e))

pub shape_by_column : (K : ℕ → Bool) (column : List ℕ) (t : ℕ) → column ≡ shape_column → cond (K t) (shape_in column t) Shape.Absent ≡ shape_for K t
unfolding shape_for
shape_by_column K column t e = rw (e, shape_in_column t)

-- what a row says, by the number of its kind
module _ {A : Type 0} (kind code size : ℕ) (a : A) where
  pub says_reading : kind ≡ 1 → said_by kind code size a ≡ reading code size
  says_reading e = rw (eq-eqb kind 1 e)

  pub says_mark : (kind ≡ 1 → ⊥) → kind ≡ 2 → said_by kind code size a ≡ mark code size
  says_mark f e = rw (ne_eqb kind 1 f, eq-eqb kind 2 e)

  pub says_text : (kind ≡ 1 → ⊥) → (kind ≡ 2 → ⊥) → kind ≡ 3 → said_by kind code size a ≡ text a
  says_text f g e = rw (ne_eqb kind 1 f, ne_eqb kind 2 g, eq-eqb kind 3 e)

  pub says_withdrawn : kind ≡ 5 → said_by kind code size a ≡ withdrawn
  says_withdrawn e = rw e

  pub says_carried : (kind ≡ 1 → ⊥) → (kind ≡ 2 → ⊥) → (kind ≡ 3 → ⊥) → (kind ≡ 5 → ⊥) → said_by kind code size a ≡ carried a
  says_carried f g h i = rw (ne_eqb kind 1 f, ne_eqb kind 2 g, ne_eqb kind 3 h, ne_eqb kind 5 i)

  -- a number that is no reading is a mark, and the other way round
  pub number_mark : (kind ≡ 1 → ⊥) → eqb kind 2 ≡ is_number (said_by kind code size a)
  number_mark f =
      by_eq kind 2 (λ e. rw e)
      (λ g. rw (ne_eqb kind 1 f, ne_eqb kind 2 g) (by_bool (eqb kind 3)
      (λ h. rw h)
      (λ h. rw h (by_bool (eqb kind 5) (λ i. rw i) (λ i. rw i)))))

  pub number_reading : is_number (said_by kind code size a) ≡ true → (kind ≡ 2 → ⊥) → kind ≡ 1
  number_reading n f =
      by_eq kind 1 (λ e. e)
      (λ g. by_eq kind 3
      (λ e. clash (sym n ∙ ap is_number (says_text g f e)))
      (λ h. by_eq kind 5
      (λ e. clash (sym n ∙ ap is_number (says_withdrawn e)))
      (λ i. clash (sym n ∙ ap is_number (says_carried g f h i)))))

-- the kind does not look at what text is; and what is seen is what kind and code say of it
module _ {A : Type 0} (size : ℕ) (a : A) where
  -- of a value the kind does not look at the length either
  pub kind_valued : {B : Type 0} (n : ℕ) (b : B) (s : Shape) (code : ℕ) → kind_of (value_as s code size a) ≡ kind_of (value_as s code n b)
  kind_valued n b (Number least most marked) code = by_bool (marked && eqb code (mark_code most)) (λ e. rw e) (λ e. rw e)
  kind_valued n b Text code = refl
  kind_valued n b Absent code = refl

  pub kind_seen : (s : Shape) (code : ℕ) → kind_of (seen_as s code size a) ≡ kind_for s code size
  kind_seen s code = by_bool (is_empty s size) (λ e. rw e) (λ e. rw e (kind_valued size tt s code))

  pub code_valued : (least most : ℕ) (marked : Bool) (code : ℕ) → code_of (value_as (Number least most marked) code size a) ≡ code
  code_valued least most marked code = by_bool (marked && eqb code (mark_code most)) (λ e. rw e) (λ e. rw e)

  -- a number of some bytes has its code
  pub code_seen : (least most : ℕ) (marked : Bool) (code : ℕ) → (size ≡ 0 → ⊥) → code_of (seen_as (Number least most marked) code size a) ≡ code
  code_seen least most marked code some = rw (ne_eqb size 0 some) (code_valued least most marked code)

  valued_said : (s : Shape) (code : ℕ) → said_by (kind_of (value_as s code size a)) (code_of (value_as s code size a)) size a ≡ value_as s code size a
  valued_said (Number least most marked) code = by_bool (marked && eqb code (mark_code most)) (λ e. rw e) (λ e. rw e)
  valued_said Text code = refl
  valued_said Absent code = refl

  pub seen_said : (s : Shape) (code : ℕ) → said_by (kind_of (seen_as s code size a)) (code_of (seen_as s code size a)) size a ≡ seen_as s code size a
  seen_said s code = by_bool (is_empty s size) (λ e. rw e) (λ e. rw e (valued_said s code))
