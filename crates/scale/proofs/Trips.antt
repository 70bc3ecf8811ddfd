-- There and back: value to code to value is within half a step and half a unit; where a step exceeds a house unit a code comes back,
-- and where it is smaller a value does. This is of the items with a width; W-202 changed it for extended heights (Heights).
-- Assumes nothing.
use Prim.Native.Nat.{ℕ, zero, suc, ◌+◌, ◌-◌, ◌*◌, ◌<◌, ◌≤◌}
use native.Mathlib.Omega.{arith}
use native.Mathlib.Nat.{zero-mul, mul-add, mul-sub}
use mathlib.Core.Path.{◌≡◌, refl, sym, ap, ap₂, ◌∙◌}
use mathlib.Core.Bool.{Bool, true, false, not, cond, ◌&&◌}
use mathlib.Core.List.{List, [], ◌∷◌}
use lib.Dec.{ltb, eqb}
use lib.IntN.{ℤ, nat_abs, ◌+ℤ◌, ◌-ℤ◌}
use borrow.Author.Tests.{lt-ltb, eq-eqb, not-true}
use Rattle.base.proofs.Cases.{by_bool, by_lt, clash}
use Rattle.base.specs.Every.{all_below}
use Rattle.refusal.specs.Answer.{given}
use Rattle.catalogue.specs.Items.{groups, member, item_in, item_of}
use Rattle.catalogue.specs.Extended.{is_extended}
use Rattle.catalogue.specs.declared.Item.{Item}
use Rattle.scale.specs.Nearest.{nearest}
use Rattle.scale.specs.Scales.{scaled, codes, half, origin, reach, steps, is_number, is_outside, code_below, code_far, value_below, value_far, side}
use Rattle.scale.specs.Conversions.{house_of, to_house, codes_away, code_at, code_of, to_code}
use Rattle.scale.specs.code.Rule.{Rule}
use Rattle.scale.specs.declared.House.{House}
use Rattle.scale.specs.declared.Code.{Code}
use Rattle.scale.proofs.Rule.{of_scaled, of-scaled}
use Rattle.scale.proofs.Nearest.{gap, nearest_none, nearest_back, there_and_back, Within}
use Rattle.scale.proofs.Whole.{sided, from_origin, to_origin, side_below, nat_abs_side}
use Rattle.scale.proofs.Sides.{one_side, side_drop, nat_abs_from}
use Rattle.scale.proofs.Items.{number_fits, some_steps}
use Rattle.scale.proofs.Numbers.{code_coded, house_inside}
use Rattle.scale.proofs.Given.{Scaled, scaled_rule, house-given, code-given, every_code_converts, every_value_converts, code_is_number, Gives}
use Rattle.scale.proofs.Codes.{below_some}
use Rattle.std.specs.Prelude.{Option, Some, None}

module _ (i : Item) (r : Rule i) where
  none_back : (m q : ℕ) (k : ℕ) → 0 < q → m ≡ 0 → nearest (m * k) q ≡ 0
  none_back m q k some z = rw (z, zero-mul k) (nearest_none q some)

  -- the value that the code of a value gives
  back_units : ℤ → ℕ
  back_units v = nearest (codes_away i v * reach i) (steps i)

  house_back : (v : ℤ) → is_outside i v ≡ false → house_of i (code_of i v) ≡ origin i +ℤ side (value_below i v) (back_units v)
  unfolding house_of back_units
  house_back v e =
      let c = code_coded i r v e in
      let m = codes_away i v in
      ap (λ x. origin i +ℤ x)
      (ap₂ (λ x y. side x (nearest (y * reach i) (steps i))) c.side_of c.far_of
      ∙ side_drop (value_below i v) m (nearest (m * reach i) (steps i)) (none_back m (steps i) (reach i) (some_steps i r)))

  back_gap : (v : ℤ) → is_outside i v ≡ false → nat_abs (house_of i (code_of i v) -ℤ v) ≡ gap (back_units v) (value_far i v)
  back_gap v e =
      nat_abs_from (origin i) (house_of i (code_of i v)) v
      ∙ (ap₂ (λ x y. nat_abs (x -ℤ y)) (ap (λ x. x -ℤ origin i) (house_back v e) ∙ to_origin (origin i) _) (sided (origin i) v)
      ∙ one_side (value_below i v) _ _)

  within : (v : ℤ) → is_outside i v ≡ false → 2 * (steps i * nat_abs (house_of i (code_of i v) -ℤ v)) ≤ reach i + steps i
  unfolding back_units
  within v e =
      rw (back_gap v e) (spread (value_far i v) (back_units v) (there_and_back (value_far i v) (steps i) (reach i) (some_steps i r) r.some))
    where
      spread : (x y : ℕ) → Within x y (steps i) (reach i) → 2 * (steps i * gap y x) ≤ reach i + steps i
      spread x y w =
          let d = steps i in
          rw (mul-add d (y - x) (x - y), mul-sub d y x, mul-sub d x y) (omega (arith, w.over, w.under))

  value_back : (v : ℤ) → is_outside i v ≡ false → reach i < steps i → house_of i (code_of i v) ≡ v
  unfolding back_units
  value_back v e fine =
      house_back v e
      ∙ (ap (λ k. origin i +ℤ side (value_below i v) k) (nearest_back (value_far i v) (reach i) (steps i) r.some fine)
      ∙ (ap (λ x. origin i +ℤ x) (sym (sided (origin i) v)) ∙ from_origin (origin i) v))

  -- the code that the value of a code gives
  code_at_back : (code : ℕ) → is_number i code ≡ true → (m : ℕ) → (code_below i code ≡ true → 0 < m)
      → code_at i (code_below i code && ltb 0 m) (code_far i code) ≡ code
  code_at_back code n m some =
      by_bool (code_below i code)
      (λ b. rw (b, lt-ltb 0 m (some b), lt-ltb 0 (codes i - code) (omega (arith, number_fits i r code n))) (omega (arith, number_fits i r code n)))
      (λ b. rw b)

  code_back : (code : ℕ) → is_number i code ≡ true → steps i < reach i → code_of i (house_of i code) ≡ code
  unfolding code_of house_of
  code_back code n coarse =
      let b = code_below i code in
      let far = code_far i code in
      let m = nearest (far * reach i) (steps i) in
      let back : nearest (m * steps i) (reach i) ≡ far = nearest_back far (steps i) (reach i) (some_steps i r) coarse in
      let away : value_far i (house_of i code) ≡ m = ap nat_abs (to_origin (origin i) (side b m)) ∙ nat_abs_side b m in
      ap₂ (λ x y. code_at i x y) (side_below (origin i) b m) (ap (λ x. nearest (x * steps i) (reach i)) away ∙ back)
      ∙ code_at_back code n m
      (λ e. by_lt 0 m (λ h. h)
      (λ h. let z : m ≡ 0 = omega arith in absurd (omega (arith, below_some i r code n e, sym back ∙ none_back m (reach i) (steps i) r.some z))))

pub there_and_back_within : (t n : ℕ) (v : ℤ) (i : Item) (c : Code) (h : House) → item_of t ≡ Some i → is_extended t ≡ false
    → to_code t n v ≡ given c → to_house t n c.code ≡ given h → 2 * (steps i * nat_abs (h.value -ℤ v)) ≤ reach i + steps i
there_and_back_within t n v i c h e x p q =
    let g = code-given t n v i c e x p in
    let k = house-given t n c.code i h e x q in
    rw (k.made, g.made) (within i (scaled_rule g.scale) v g.fit)

-- a step is smaller than a house unit
pub value_code_value : (t n : ℕ) (v : ℤ) (i : Item) (c : Code) → item_of t ≡ Some i → is_extended t ≡ false → reach i < steps i
    → to_code t n v ≡ given c → Gives (to_house t n c.code) (λ h. h.value ≡ v)
value_code_value t n v i c e x fine p =
    let g = code-given t n v i c e x p in
    rw (g.made, every_code_converts g.scale n (code_of i v) (code_is_number g.scale v g.fit))
    (value_back i (scaled_rule g.scale) v g.fit fine)

-- a step exceeds a house unit
pub code_value_code : (t n code : ℕ) (i : Item) (h : House) → item_of t ≡ Some i → is_extended t ≡ false → steps i < reach i
    → to_house t n code ≡ given h → Gives (to_code t n h.value) (λ c. c.code ≡ code)
code_value_code t n code i h e x coarse p =
    let g = house-given t n code i h e x p in
    let r = scaled_rule g.scale in
    rw (g.made, every_value_converts g.scale n (house_of i code) (house_inside i r code g.fit)) (code_back i r code g.fit coarse)

-- which items fall where, of those with a width
pub is_coarse : Item → Bool
is_coarse i = scaled i && ltb (steps i) (reach i)

pub is_fine : Item → Bool
is_fine i = scaled i && ltb (reach i) (steps i)

pub onto : (Item → Bool) → Option Item → List ℕ → List ℕ
onto f (Some i) ts = cond (f i) (i.tag ∷ ts) ts
onto f None ts = ts

pub tags_from : (Item → Bool) → ℕ → ℕ → List ℕ
tags_from f zero t = []
tags_from f (suc n) t = onto f (item_of t) (tags_from f n (suc t))

pub coarse_tags :
    tags_from is_coarse 128 0
    ≡ 5 ∷ 6 ∷ 7 ∷ 8 ∷ 9 ∷ 15 ∷ 16 ∷ 17 ∷ 21 ∷ 22 ∷ 25 ∷ 26 ∷ 27 ∷ 28 ∷ 29 ∷ 30 ∷ 31 ∷ 32 ∷ 33 ∷ 35 ∷ 36 ∷ 37 ∷ 38 ∷ 39 ∷ 55 ∷ 56 ∷ 57 ∷ 64
    ∷ 71 ∷ 75 ∷ 78 ∷ 79 ∷ 80 ∷ []
unfolding groups member item_in item_of onto tags_from is_coarse codes half origin reach steps
coarse_tags = refl

pub fine_tags :
    tags_from is_fine 128 0
    ≡ 13 ∷ 14 ∷ 18 ∷ 19 ∷ 20 ∷ 23 ∷ 24 ∷ 67 ∷ 68 ∷ 82 ∷ 83 ∷ 84 ∷ 85 ∷ 86 ∷ 87 ∷ 88 ∷ 89 ∷ 90 ∷ 91 ∷ []
unfolding groups member item_in item_of onto tags_from is_fine codes half origin reach steps
fine_tags = refl

-- and there is no third kind
uneven : Item → Bool
uneven i = not (eqb (steps i) (reach i))

all_uneven : all_below (λ t. of_scaled uneven (item_of t)) 128 ≡ true
unfolding groups member item_in item_of uneven codes half origin reach steps
all_uneven = refl

pub no_even_step : (t : ℕ) (i : Item) → Scaled t i → steps i ≡ reach i → ⊥
unfolding uneven
no_even_step t i s e = clash (sym (eq-eqb (steps i) (reach i) e) ∙ not-true _ (of-scaled uneven all_uneven t i s.known s.has_scale))
