-- To house units: the value given is the only whole number within a half of what document 01's formula gives, and a tie never occurs. This is of the
-- items with a width; W-202 changed it for extended heights (Heights).
-- Assumes nothing.
use Prim.Native.Nat.{ℕ, ◌*◌, ◌<◌, ◌≤◌}
use native.Mathlib.Omega.{arith}
use mathlib.Core.Path.{◌≡◌, sym, ap, ap₂, ◌∙◌}
use mathlib.Core.Bool.{Bool, false}
use lib.IntN.{ℤ, pos, nat_abs, ◌+ℤ◌, ◌-ℤ◌, ◌*ℤ◌}
use lib.Signed.{lt_z}
use Rattle.refusal.specs.Answer.{given}
use Rattle.catalogue.specs.Items.{item_of}
use Rattle.catalogue.specs.Extended.{is_extended}
use Rattle.catalogue.specs.declared.Item.{Item}
use Rattle.scale.specs.Scales.{origin, reach, steps, code_below, code_far, side}
use Rattle.scale.specs.Conversions.{units_away, house_of, to_house}
use Rattle.scale.specs.Exact.{miss}
use Rattle.scale.specs.code.Rule.{Rule}
use Rattle.scale.specs.declared.House.{House}
use Rattle.scale.proofs.Whole.{sided, from_origin, to_origin}
use Rattle.scale.proofs.Sides.{side_times, near_side, within_half}
use Rattle.scale.proofs.Given.{house-given, scaled_rule}
use Rattle.std.specs.Prelude.{Some}

-- what a value so far from the origin misses
pub miss_is : (i : Item) (code : ℕ) (v : ℤ) (b : Bool) (k : ℕ) → v -ℤ origin i ≡ side b k
    → miss i code v ≡ nat_abs (side b (k * steps i) -ℤ side (code_below i code) (code_far i code * reach i))
unfolding miss
miss_is i code v b k e =
    ap₂ (λ x y. nat_abs (x -ℤ y)) (ap (λ x. x *ℤ pos (steps i)) e ∙ side_times b k (steps i)) (side_times (code_below i code) (code_far i code) (reach i))

pub record NearestValue (i : Item) (code : ℕ) (v : ℤ) : Type 0 where
  pub within : 2 * miss i code v < steps i
  pub only : (w : ℤ) → 2 * miss i code w ≤ steps i → w ≡ v
  pub no_tie : (w : ℤ) → 2 * miss i code w ≡ steps i → ⊥

nearest_value : (i : Item) → Rule i → (code : ℕ) → NearestValue i code (house_of i code)
unfolding house_of
nearest_value i r code = record { within = near; only = alone; no_tie = untied }
  where
    near : 2 * miss i code (house_of i code) < steps i
    near =
        rw (miss_is i code (house_of i code) (code_below i code) (units_away i code) (to_origin (origin i) _))
        (within_half (code_below i code) (code_far i code * reach i) (steps i) r.odd)

    alone : (w : ℤ) → 2 * miss i code w ≤ steps i → w ≡ house_of i code
    alone w h =
        let e = sided (origin i) w in
        sym (from_origin (origin i) w)
        ∙ ap (λ x. origin i +ℤ x)
        (e ∙ near_side (code_below i code) (lt_z w (origin i)) (nat_abs (w -ℤ origin i)) (code_far i code * reach i) (steps i) r.odd
        (rw (miss_is i code w (lt_z w (origin i)) (nat_abs (w -ℤ origin i)) e) at h))

    untied : (w : ℤ) → 2 * miss i code w ≡ steps i → ⊥
    untied w h = omega (arith, near, ap (miss i code) (alone w (omega arith)))

pub house_nearest : (t n code : ℕ) (i : Item) (h : House) → item_of t ≡ Some i → is_extended t ≡ false → to_house t n code ≡ given h
    → NearestValue i code h.value
house_nearest t n code i h e x p =
    let g = house-given t n code i h e x p in
    rw g.made (nearest_value i (scaled_rule g.scale) code)
