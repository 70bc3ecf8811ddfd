-- What the rule gives for one item: products and values that fit, the reduced fraction, and how far values inside the range are from the origin.
-- Assumes nothing.
use Prim.Native.Nat.{ℕ, zero, suc, ◌-◌, ◌*◌, ◌/◌, ◌^◌, ◌<◌, ◌≤◌}
use native.Mathlib.Omega.{arith}
use native.Mathlib.Nat.{mul-zero, mul_left_comm, mul-le-mul_right, div-one}
use mathlib.Core.Path.{◌≡◌, refl, sym, ap, ap₂, ◌∙◌}
use mathlib.Core.Bool.{Bool, true, false, not, ◌&&◌, ◌||◌}
use lib.Dec.{ltb, leb, eqb}
use lib.IntN.{ℤ, pos, nat_abs, ◌-ℤ◌, +ℤ_idr}
use borrow.Author.Tests.{ltb-true, lt-ltb}
use lib.Signed.{mag, lt_z}
use mir.Syntax.{w64}
use mir.Val.{SFits}
use Rattle.base.proofs.Cases.{by_bool, clash}
use Rattle.base.proofs.Every.{both_left}
use Rattle.catalogue.specs.Shapes.{is_marked}
use Rattle.catalogue.specs.declared.Item.{Item}
use Rattle.scale.specs.Nearest.{nearest}
use Rattle.scale.specs.Scales.{signed, codes, half, origin, reach, steps, is_number, is_outside, code_below, code_far, value_far}
use Rattle.scale.specs.code.Rule.{shared, depth, under, Rule, Scales, Counted}
use Rattle.scale.specs.declared.Scale.{Scale}
use Rattle.scale.proofs.Nearest.{nearest_cancel, nearest_grows}
use Rattle.scale.proofs.Whole.{far_sum, nat_abs_turn, lt_z_turn}

-- two tests of which neither passes
pub neither_left : (a b : Bool) → a || b ≡ false → a ≡ false
neither_left true b e = e
neither_left false b e = refl

pub neither_right : (a b : Bool) → a || b ≡ false → b ≡ false
neither_right true b e = clash e
neither_right false b e = e

reduced : (k far a b x y : ℕ) → 0 < k → k * a ≡ x → k * b ≡ y → nearest (far * a) b ≡ nearest (far * x) y
reduced k far a b x y some e f =
    sym (nearest_cancel k (far * a) b some) ∙ ap₂ nearest (mul_left_comm k far a ∙ ap (λ z. far * z) e) f

some_part : (k a x : ℕ) → k * a ≡ x → 0 < x → 0 < a
some_part k zero x e h = absurd (omega (arith, mul-zero k))
some_part k (suc a) x e h = omega arith

module _ (i : Item) (r : Rule i) where
  pub some_steps : 0 < steps i
  some_steps = omega (arith, r.odd)

  pub halved : codes i / 2 ≡ half i
  halved = omega (arith, r.halves)

  some_shared : 0 < shared i
  some_shared = by_bool (signed i) (λ e. rw e (omega arith)) (λ e. rw e (omega arith))

  -- the fractions with what both share taken out
  pub units_reduced : (far : ℕ) → nearest (far * (reach i / shared i)) (steps i / shared i) ≡ nearest (far * reach i) (steps i)
  units_reduced far = reduced (shared i) far _ _ _ _ some_shared r.reach_shared r.steps_shared

  pub codes_reduced : (far : ℕ) → nearest (far * (steps i / shared i)) (reach i / shared i) ≡ nearest (far * steps i) (reach i)
  codes_reduced far = reduced (shared i) far _ _ _ _ some_shared r.steps_shared r.reach_shared

  pub some_steps_reduced : 0 < steps i / shared i
  some_steps_reduced = some_part (shared i) _ _ r.steps_shared some_steps

  pub some_reach_reduced : 0 < reach i / shared i
  some_reach_reduced = some_part (shared i) _ _ r.reach_shared r.some

  -- to house units
  pub house_product : (far : ℕ) → far ≤ codes i → far * (reach i / shared i) < 2 ^ 63
  house_product far h = omega (arith, mul-le-mul_right (reach i / shared i) h, r.house_small)

  pub units_few : (far : ℕ) → far ≤ codes i → nearest (far * reach i) (steps i) < 2 ^ 62
  units_few far h =
      omega (arith, nearest_grows (far * reach i) (codes i * reach i) (steps i) some_steps (mul-le-mul_right (reach i) h), r.units_small)

  pub origin_small : mag (origin i) < 2 ^ 62
  unfolding origin
  origin_small = by_bool (signed i) (λ e. rw e (omega arith)) (λ e. rw e r.low_small)

  pub origin_fits : {s : Scale} → Scales i s → SFits w64 s.origin
  origin_fits k = rw k.from (record { sfits = omega (arith, origin_small) })

  -- to codes
  pub far_above : (v : ℤ) → lt_z v (origin i) ≡ false → lt_z i.high v ≡ false → value_far i v ≤ reach i
  unfolding reach
  far_above v p q = omega (arith, far_sum (origin i) v i.high p q)

  pub far_below : (v : ℤ) → lt_z v (origin i) ≡ true → lt_z v i.low ≡ false → value_far i v ≤ depth i
  far_below v p q =
      omega (arith, far_sum i.low v (origin i) q (lt_z_turn v (origin i) p), nat_abs_turn v (origin i), nat_abs_turn i.low (origin i))

  pub value_product : (v : ℤ) → is_outside i v ≡ false → value_far i v * (steps i / shared i) < 2 ^ 63
  value_product v e =
      by_bool (lt_z v (origin i))
      (λ b. omega (arith, mul-le-mul_right (steps i / shared i) (far_below v b (neither_left (lt_z v i.low) _ e)), r.deep_small))
      (λ b. omega (arith, mul-le-mul_right (steps i / shared i) (far_above v b (neither_right (lt_z v i.low) _ e)), r.high_fits))

  pub below_codes : (far : ℕ) → far ≤ depth i → nearest (far * steps i) (reach i) ≤ under i
  below_codes far h = omega (arith, nearest_grows (far * steps i) (depth i * steps i) (reach i) r.some (mul-le-mul_right (steps i) h), r.lowest_under)

  pub under_half : under i ≤ half i
  unfolding steps
  under_half =
      by_bool (signed i)
      (λ e. rw e (by_bool (is_marked i.sign) (λ f. rw f (omega arith)) (λ f. rw f (omega arith))))
      (λ e. rw e (omega arith))

  -- the parts of the scale, by the sign
  pub codes_are : 2 ^ (8 * i.width) ≡ codes i
  unfolding codes
  codes_are = refl

  pub steps_unsigned : signed i ≡ false → steps i ≡ codes i - 1
  unfolding steps
  steps_unsigned e = rw e

  pub steps_signed : signed i ≡ true → steps i ≡ half i - 1
  unfolding steps
  steps_signed e = rw e

  pub origin_unsigned : signed i ≡ false → origin i ≡ i.low
  unfolding origin
  origin_unsigned e = rw e

  pub origin_signed : signed i ≡ true → origin i ≡ pos 0
  unfolding origin
  origin_signed e = rw e

  pub reach_signed : signed i ≡ true → reach i ≡ nat_abs i.high
  unfolding reach
  reach_signed e = rw (origin_signed e) (ap nat_abs (+ℤ_idr i.high))

  pub shared_unsigned : signed i ≡ false → shared i ≡ 5
  shared_unsigned e = rw e

  pub shared_signed : signed i ≡ true → shared i ≡ 1
  shared_signed e = rw e

  pub counted_scales : (s : Scale) → signed i ≡ true → Counted (codes i) i.high s → Scales i s
  counted_scales s e c =
      let one : shared i ≡ 1 = shared_signed e in
      record {
        from = c.from ∙ sym (origin_signed e);
        two_sided = c.two_sided ∙ sym e;
        all_codes = c.all_codes;
        units = c.units ∙ (sym (reach_signed e) ∙ rw one (sym (div-one (reach i))));
        count = c.count ∙ (ap (λ x. x - 1) halved ∙ (sym (steps_signed e) ∙ rw one (sym (div-one (steps i)))));
      }

  pub unsigned_scales : (s : Scale) → signed i ≡ false → s.origin ≡ i.low → s.signed ≡ false → s.codes ≡ codes i
      → s.reach ≡ nat_abs (i.high -ℤ i.low) / 5 → s.steps ≡ (codes i - 1) / 5 → Scales i s
  unfolding reach
  unsigned_scales s e o b k u n =
      let five : shared i ≡ 5 = shared_unsigned e in
      record {
        from = o ∙ sym (origin_unsigned e);
        two_sided = b ∙ sym e;
        all_codes = k;
        units = u ∙ sym (ap₂ (λ x y. nat_abs (i.high -ℤ x) / y) (origin_unsigned e) five);
        count = n ∙ sym (ap₂ (λ x y. x / y) (steps_unsigned e) five);
      }

  pub number_fits : (code : ℕ) → is_number i code ≡ true → code < codes i
  number_fits code e = ltb-true code (codes i) (both_left (ltb code (codes i)) _ e)

  pub far_fits : (code : ℕ) → is_number i code ≡ true → code_far i code ≤ codes i
  far_fits code n = by_bool (code_below i code) (λ e. rw e (omega arith)) (λ e. rw e (omega (arith, number_fits code n)))

  -- with the scale as the code has it: the tests and the fractions are the definition's, and the products fit
  module _ {s : Scale} (k : Scales i s) where
    pub below_same : (code : ℕ) → s.signed && leb (s.codes / 2) code ≡ code_below i code
    below_same code = rw (k.two_sided, k.all_codes, halved)

    pub units_same : (far : ℕ) → nearest (far * s.reach) s.steps ≡ nearest (far * reach i) (steps i)
    units_same far = rw (k.units, k.count) (units_reduced far)

    pub units_round : (far : ℕ) → far ≤ codes i → (0 < s.steps) × (far * s.reach < 2 ^ 63)
    units_round far h = rw (k.units, k.count) (some_steps_reduced, house_product far h)

    pub codes_same : (far : ℕ) → nearest (far * s.steps) s.reach ≡ nearest (far * steps i) (reach i)
    codes_same far = rw (k.units, k.count) (codes_reduced far)

    pub codes_round : (v : ℤ) → is_outside i v ≡ false → (0 < s.reach) × (value_far i v * s.steps < 2 ^ 63)
    codes_round v e = rw (k.units, k.count) (some_reach_reduced, value_product v e)

  pub marked_number : (code : ℕ) → code < codes i → is_marked i.sign ≡ true → not (eqb code (half i)) ≡ is_number i code
  marked_number code h e = rw (lt-ltb code (codes i) h, e)

  pub unmarked_number : (code : ℕ) → code < codes i → is_marked i.sign ≡ false → true ≡ is_number i code
  unmarked_number code h e = rw (lt-ltb code (codes i) h, e)
