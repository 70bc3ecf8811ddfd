-- Images of records: the catalogue's length by its item, at most 8, and an image by the record's parts.
-- Assumes nothing.
use Prim.Native.Nat.{ℕ, suc, min, ◌+◌, ◌-◌, ◌*◌, ◌<◌, ◌≤◌}
use native.Mathlib.Omega.{arith}
use mathlib.Core.Path.{◌≡◌, refl, ap, sym, ◌∙◌}
use mathlib.Core.Bool.{Bool, true, false, cond}
use mathlib.Core.List.{List, [], ◌∷◌, append_assoc}
use lib.Seq.{sets-eq, drop-drop}
use borrow.Rule.Slice.PartMut.{put_mid}
use lib.Dec.{eqb}
use lib.Signed.{lt_z}
use lib.ListN.{length, get_or, replicate}
use borrow.Author.Tests.{eqb-true, eq-eqb, lt-ltb, le-ltb}
use Rattle.base.proofs.Cases.{by_bool, by_lt}
use Rattle.catalogue.specs.Items.{item_of}
use Rattle.catalogue.specs.Shapes.{is_marked, unfixed, shape_by, shape_of}
use Rattle.catalogue.specs.declared.Item.{Item}
use Rattle.catalogue.specs.declared.Shape.{Shape}
use Rattle.catalogue.specs.declared.Shape.TheVariants as shape
use Rattle.catalogue.proofs.Columns.{number_ranged}
use Rattle.rows.specs.declared.RowWords.{RowWords}
use Rattle.rows.specs.declared.Row.{Row}
use Rattle.rows.specs.declared.Content.{Content}
use Rattle.records.specs.Images.{width_by, width_of, says_for, row_saying, image_of, none, put_image, images_into, fitting, image_table}
use Rattle.std.specs.Prelude.{Some, None}
use Rattle.std.proofs.lemmas.List.{get_or_default}

unfixed_by : (i : Item) (b : Bool) → lt_z i.low i.high ≡ b → ◌≡◌ {A = ℕ} 0 (width_by (unfixed i))
unfixed_by i true e = rw e
unfixed_by i false e = rw e

known_by : (i : Item) (b : Bool) → eqb i.width 0 ≡ b → i.width ≡ width_by (cond b (unfixed i) (shape.Number i.width i.width (is_marked i.sign)))
known_by i true e = eqb-true _ 0 e ∙ unfixed_by i (lt_z i.low i.high) refl
known_by i false e = rw (eq-eqb i.width i.width refl)

pub width_known : (t : ℕ) (i : Item) → item_of t ≡ Some i → i.width ≡ width_of t
unfolding shape_of
width_known t i e = known_by i (eqb i.width 0) refl ∙ ap (λ f. width_by (shape_by f)) (sym e)

pub width_absent : (t : ℕ) → item_of t ≡ None → ◌≡◌ {A = ℕ} 0 (width_of t)
unfolding shape_of
width_absent t e = ap (λ f. width_by (shape_by f)) (sym e)

width-by : (t : ℕ) (s : Shape) → shape_of t ≡ s → width_by s ≤ 8
width-by t (shape.Number l m k) e =
    by_bool (eqb l m) (λ q. rw q (number_ranged t l m k e).few) (λ q. rw q (omega arith))
width-by t shape.Text e = omega arith
width-by t shape.Absent e = omega arith

pub width_small : (t : ℕ) → width_of t ≤ 8
width_small t = width-by t (shape_of t) refl

pub image_by : (r : Row) (c : Content) → r.content ≡ c → row_saying r.tag (says_for r.tag c) ≡ image_of r
unfolding image_of
image_by r c e = ap (λ x. row_saying r.tag (says_for r.tag x)) (sym e)

-- the four words put at their place
pub puts : (t : List ℕ) (n : ℕ) {r s : RowWords} {ws : List ℕ} → r ≡ s → length t ≡ 512 → n < 128 → ws ≡ r.tag ∷ r.kind ∷ r.code ∷ r.part ∷ []
    → put_mid (4 * n) (4 * n + 4 - 4 * n) t ws ≡ put_image t n s
puts t n {r} e long h f =
    let four : 4 * n + 4 - 4 * n ≡ 4 = omega arith in
    rw (f, ← e, four, drop-drop 4 (4 * n) t, sets-eq (r.tag ∷ r.kind ∷ r.code ∷ r.part ∷ []) t (4 * n) (omega arith), append_assoc)

-- the table before the first record, and with one record more
pub images_none : (rs : List Row) (t : List ℕ) → t ≡ images_into 0 rs t
unfolding images_into
images_none rs t = refl

pub images_more : (n : ℕ) (rs : List Row) (d : Row) (t : List ℕ) → n < length rs
    → put_image (images_into n rs t) n (image_of (get_or rs n d)) ≡ images_into (suc n) rs t
unfolding images_into
images_more n rs d t h = rw (get_or_default rs n d none h)

pub images_all : (rs : List Row) {n m : ℕ} → m ≡ min (length rs) 128 → n ≤ m → m ≤ n → images_into n rs (replicate 512 0) ≡ image_table rs
unfolding image_table
images_all rs {n} {m} e low high =
    let all : n ≡ fitting (length rs) =
    by_lt (length rs) 128 (λ h. rw (lt-ltb _ _ h) (omega arith)) (λ h. rw (le-ltb _ _ h) (omega arith)) in
    rw all
