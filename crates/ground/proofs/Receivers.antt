-- Two receivers, one knowing all that the other knows: where they agree on the tags that an answer looks at, and the fuller accepts,
-- the two answers are equal.
-- Assumes nothing.
use Prim.Native.Nat.{ℕ, ◌+◌, ◌*◌}
use mathlib.Core.Path.{◌≡◌, refl}
use mathlib.Core.Bool.{true}
use mathlib.Core.List.{List, [], ◌∷◌}
use borrow.Author.Tests.{ne_eqb}
use Rattle.base.proofs.Cases.{by_eq}
use Rattle.base.specs.Every.{Each}
use Rattle.refusal.specs.Answer.{given}
use Rattle.tagset.specs.Sets.{holds}
use Rattle.tagset.specs.declared.TagSet.{TagSet}
use Rattle.tagset.proofs.Laws.{Included}
use Rattle.knowing.specs.Good.{good}
use Rattle.rows.specs.Meaning.{shape_for}
use Rattle.rows.specs.declared.RowWords.{RowWords}
use Rattle.packet.specs.Pieces.{Item}
use Rattle.packet.specs.Judge.{Knowing}
use Rattle.packet.specs.Verdict.{received}
use Rattle.packet.specs.Rows.{row_of, rows_of}
use Rattle.laws.proofs.Receivers.{received_larger}
use Rattle.ground.specs.Values.{value_for}
use Rattle.ground.specs.Ground.{height_in, sensor_in, full_corner, offset_corner, plain_corner, corner_in, from_rows, sensor_height, frame_centre_height, corner_of}

-- the rows of two receivers say the same of a tag on which they agree
pub same_value : (K K' : Knowing) (t : ℕ) → K t ≡ K' t → (is : List Item) → value_for t (rows_of K is) ≡ value_for t (rows_of K' is)
unfolding value_for rows_of row_of shape_for
same_value K K' t e [] = refl
same_value K K' t e (i ∷ is) =
    by_eq i.piece.tag t
    (λ s. rw (s, e, same_value K K' t e is))
    (λ n. rw (ne_eqb _ _ n) (same_value K K' t e is))

-- the tags that an answer looks at: rows that say the same of them give the same answer
abbrev pub LooksAt : {A : Type 0} → List ℕ → (List RowWords → A) → Type 0
LooksAt ts f = (rs ss : List RowWords) → Each (λ t. value_for t rs ≡ value_for t ss) ts → f rs ≡ f ss

pub height_looks : (a b : ℕ) → LooksAt (a ∷ b ∷ []) (height_in a b)
unfolding height_in
height_looks a b rs ss e = rw (e.0, e.1.0)

pub sensor_looks : LooksAt (104 ∷ 75 ∷ 15 ∷ []) sensor_in
unfolding sensor_in
sensor_looks rs ss e = rw (e.0, e.1.0, e.1.1.0)

abbrev pub corner_tags : ℕ → List ℕ
corner_tags k = (80 + 2 * k) ∷ (81 + 2 * k) ∷ (24 + 2 * k) ∷ (25 + 2 * k) ∷ 23 ∷ 24 ∷ []

pub corner_looks : (k : ℕ) → LooksAt (corner_tags k) (corner_in k)
unfolding corner_in plain_corner full_corner offset_corner
corner_looks k rs ss e = rw (e.0, e.1.0, e.1.1.0, e.1.1.1.0, e.1.1.1.1.0, e.1.1.1.1.1.0)

module _ (K K' : TagSet) (g : good K ≡ true) (g' : good K' ≡ true) (within : Included K K')
    (p : List ℕ) (is : List Item) (accepts : received K' p ≡ given is) where
  abbrev pub Agree : List ℕ → Type 0
  Agree ts = Each (λ t. holds K t ≡ holds K' t) ts

  values : (ts : List ℕ) → Agree ts → Each (λ t. value_for t (rows_of (holds K) is) ≡ value_for t (rows_of (holds K') is)) ts
  values [] a = tt
  values (t ∷ ts) a = (same_value (holds K) (holds K') t a.0 is, values ts a.1)

  pub same-answer : {A : Type 0} (ts : List ℕ) (f : List RowWords → A) → LooksAt ts f → Agree ts → from_rows f K p ≡ from_rows f K' p
  unfolding from_rows
  same-answer ts f looks a =
      rw (received_larger K K' g g' within p is accepts, accepts, looks (rows_of (holds K) is) (rows_of (holds K') is) (values ts a))

  pub sensor_height_agrees : Agree (104 ∷ 75 ∷ 15 ∷ []) → sensor_height K p ≡ sensor_height K' p
  sensor_height_agrees = same-answer (104 ∷ 75 ∷ 15 ∷ []) sensor_in sensor_looks

  pub frame_centre_height_agrees : Agree (78 ∷ 25 ∷ []) → frame_centre_height K p ≡ frame_centre_height K' p
  frame_centre_height_agrees = same-answer (78 ∷ 25 ∷ []) (height_in 78 25) (height_looks 78 25)

  pub corner_agrees : (k : ℕ) → Agree (corner_tags k) → corner_of k K p ≡ corner_of k K' p
  corner_agrees k = same-answer (corner_tags k) (corner_in k) (corner_looks k)
