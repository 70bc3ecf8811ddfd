-- What the rows say of a tag, row by row.
-- Assumes nothing.
use Prim.Native.Nat.{ℕ}
use mathlib.Core.Path.{◌≡◌, refl, sym, ap, ◌∙◌}
use mathlib.Core.Bool.{false, ◌&&◌}
use mathlib.Core.List.{List, [], ◌∷◌}
use lib.Dec.{eqb}
use lib.IntN.{ℤ}
use borrow.Author.Tests.{eqb-true}
use Rattle.base.proofs.Cases.{by_bool, never}
use Rattle.base.proofs.Every.{both_left}
use Rattle.refusal.specs.Answer.{Answer, given, refused}
use Rattle.catalogue.specs.declared.Item.{Item}
use Rattle.rows.specs.Meaning.{Meaning, reading, mark, text, carried, withdrawn, is_number}
use Rattle.rows.specs.declared.RowWords.{RowWords}
use Rattle.rows.specs.Taken.{row_says}
use Rattle.rows.specs.declared.Part.{Part}
use Rattle.scale.specs.Scales.{is_outside}
use Rattle.scale.specs.Conversions.{to_house}
use Rattle.scale.specs.declared.House.{House}
use Rattle.scale.proofs.Numbers.{house_inside}
use Rattle.scale.proofs.Given.{Scaled, scaled_rule, scaled_plain, house-given, house_small}
use Rattle.ground.specs.Values.{in_house, value_seen, value_by, value_for, Small}
use Rattle.ground.specs.declared.Value.TheVariants.{At}

-- what a row says is small enough to be added
house_is_small : (t n code : ℕ) (a : Answer House) → to_house t n code ≡ a → Small (in_house a)
house_is_small t n code (given h) e = house_small t n code h e
house_is_small t n code (refused k p u) e = tt

row_small : (r : RowWords) → Small (value_by r)
unfolding value_by
row_small r = seen_small (row_says r)
  where
    seen_small : (m : Meaning Part) → Small (value_seen r.tag m)
    seen_small (reading code size) = house_is_small r.tag size code (to_house r.tag size code) refl
    seen_small (mark code size) = tt
    seen_small (text part) = tt
    seen_small (carried part) = tt
    seen_small withdrawn = tt

pub value_small : (t : ℕ) (rs : List RowWords) → Small (value_for t rs)
unfolding value_for
value_small t [] = tt
value_small t (r ∷ rs) =
    by_bool (eqb r.tag t && is_number (row_says r)) (λ e. rw e (row_small r)) (λ e. rw e (value_small t rs))

-- what the rows say of a tag with a scale is inside its range
module _ {t : ℕ} {i : Item} (s : Scaled t i) (v : ℤ) where
  house_so : (n code : ℕ) (a : Answer House) → to_house t n code ≡ a → in_house a ≡ At v → is_outside i v ≡ false
  house_so n code (given h) e f =
      let g = house-given t n code i h s.known (scaled_plain s) e in
      let same : h.value ≡ v = cc in
      rw (← same, g.made) (house_inside i (scaled_rule s) code g.fit)
  house_so n code (refused k p u) e f = never (cc)

  seen_so : (m : Meaning Part) → value_seen t m ≡ At v → is_outside i v ≡ false
  seen_so (reading code n) f = house_so n code (to_house t n code) refl f
  seen_so (mark code n) f = never (cc)
  seen_so (text part) f = never (cc)
  seen_so (carried part) f = never (cc)
  seen_so withdrawn f = never (cc)

  pub value_inside : (rs : List RowWords) → value_for t rs ≡ At v → is_outside i v ≡ false
  unfolding value_for value_by
  value_inside [] f = never (cc)
  value_inside (r ∷ rs) f =
      by_bool (eqb r.tag t && is_number (row_says r))
      (λ q.
      let e : r.tag ≡ t = eqb-true _ _ (both_left (eqb r.tag t) _ q) in
      seen_so (row_says r) (ap (λ u. value_seen u (row_says r)) (sym e) ∙ (rw q at f)))
      (λ q. value_inside rs (rw q at f))
