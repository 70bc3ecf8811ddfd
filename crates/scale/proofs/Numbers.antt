-- The code that a value gets, as a side and a distance: it fits, it is no mark, and what it stands for; and the value that a code gets is inside the range.
-- Assumes nothing.
use Prim.Native.Nat.{ℕ, zero, suc, ◌+◌, ◌-◌, ◌*◌, ◌<◌, ◌≤◌}
use native.Mathlib.Omega.{arith}
use native.Mathlib.Nat.{mul-le-mul_right}
use mathlib.Core.Path.{◌≡◌, refl, sym, ap, ap₂, ◌∙◌}
use mathlib.Core.Bool.{Bool, true, false, not, cond, ◌&&◌, ◌||◌}
use lib.Dec.{ltb, eqb}
use lib.IntN.{ℤ, pos, neg_ℤ, ◌+ℤ◌, ◌-ℤ◌, +ℤ_comm, neg_ℤ-neg_ℤ}
use lib.Signed.{lt_z}
use borrow.Author.Tests.{leb-true, leb-false, eqb-false, not-true, lt-ltb, le-ltb, le-leb, lt-leb, ne_eqb}
use Rattle.base.proofs.Cases.{by_bool, clash}
use Rattle.base.proofs.Every.{both_left, both_right}
use Rattle.catalogue.specs.Rows.{is_signed}
use Rattle.catalogue.specs.Shapes.{is_marked}
use Rattle.catalogue.specs.declared.Sign.{Sign}
use Rattle.catalogue.specs.declared.Sign.TheVariants.{Unsigned, Signed, Marked}
use Rattle.catalogue.specs.declared.Item.{Item}
use Rattle.scale.specs.Scales.{signed, codes, half, origin, reach, steps, is_mark, is_number, is_outside, code_below, code_far, value_below, value_far, side}
use Rattle.scale.specs.Conversions.{units_away, house_of, codes_away, code_at, code_of}
use Rattle.scale.specs.code.Rule.{depth, under, Rule}
use Rattle.scale.proofs.Nearest.{nearest_grows, nearest_top}
use Rattle.scale.proofs.Whole.{up, turn, through, nat_abs_turn, to_origin}
use Rattle.scale.proofs.Sides.{pos_minus, not_less}
use Rattle.scale.proofs.Items.{neither_left, neither_right, some_steps, steps_signed, steps_unsigned, number_fits}
use Rattle.scale.proofs.Items.{far_above, far_below, below_codes, under_half}

-- a value so far from the origin, between the ends
pub between : (low high o v : ℤ) (d r m : ℕ) (b : Bool) → o -ℤ low ≡ pos d → high -ℤ o ≡ pos r → v -ℤ o ≡ side b m
    → (b ≡ true → m ≤ d) → (b ≡ false → m ≤ r) → lt_z v low || lt_z high v ≡ false
between low high o v d r m true e f g down high-ok =
    rw (
      not_less low v (d - m) (sym (through v o low) ∙ (ap₂ (λ x y. x +ℤ y) g e ∙ (+ℤ_comm (neg_ℤ (pos m)) (pos d) ∙ pos_minus m d (down refl)))),
      not_less v high (r + m) (sym (through high o v) ∙ ap₂ (λ x y. x +ℤ y) f (sym (turn v o) ∙ (ap neg_ℤ g ∙ neg_ℤ-neg_ℤ (pos m)))),
    )
between low high o v d r m false e f g down high-ok =
    rw (
      not_less low v (m + d) (sym (through v o low) ∙ ap₂ (λ x y. x +ℤ y) g e),
      not_less v high (r - m) (sym (through high o v) ∙ (ap₂ (λ x y. x +ℤ y) f (sym (turn v o) ∙ ap neg_ℤ g) ∙ pos_minus m r (high-ok refl))),
    )

-- a mark is a code of a signed item
marked_signed : (s : Sign) → is_marked s ≡ true → is_signed s ≡ true
marked_signed Unsigned e = clash (sym e)
marked_signed Signed e = refl
marked_signed Marked e = refl

-- a code at some distance is turned where it is below, and at none it is that of the origin
pub code_some : (i : Item) (below : Bool) (far : ℕ) → 0 < far → cond below (codes i - far) far ≡ code_at i below far
code_some i true far h = rw (lt-ltb 0 far h)
code_some i false far h = refl

pub code_none : (i : Item) (below : Bool) (far : ℕ) → far ≤ 0 → far ≡ code_at i below far
code_none i true far h = rw (le-ltb 0 far h)
code_none i false far h = refl

module _ (i : Item) (r : Rule i) where
  steps_codes : steps i < codes i
  steps_codes =
      by_bool (signed i)
      (λ e. omega (arith, steps_signed i r e, r.halves, some_steps i r))
      (λ e. omega (arith, steps_unsigned i r e, some_steps i r))

  steps_half : signed i ≡ true → steps i < half i
  steps_half e = omega (arith, steps_signed i r e, some_steps i r)

  some_half : 0 < half i
  some_half = omega (arith, r.halves, steps_codes)

  -- the code so far above the origin, or below it
  pub record Coded (below : Bool) (far code : ℕ) : Type 0 where
    pub fits : code < codes i
    pub no_mark : is_mark i code ≡ false
    pub side_of : code_below i code ≡ (below && ltb 0 far)
    pub far_of : code_far i code ≡ far

  coded_above : (far : ℕ) → far ≤ steps i → Coded false far far
  coded_above far h =
      let low : code_below i far ≡ false = by_bool (signed i) (λ e. rw (e, lt-leb (half i) far (omega (arith, steps_half e)))) (λ e. rw e) in
      record {
        fits = omega (arith, steps_codes);
        no_mark =
            by_bool (is_marked i.sign)
            (λ e. rw (e, ne_eqb far (half i) (λ q. omega (arith, steps_half (marked_signed i.sign e)))))
            (λ e. rw e);
        side_of = low;
        far_of = rw low;
      }

  under_signed : (far : ℕ) → 0 < far → far ≤ under i → signed i ≡ true
  under_signed far some h = by_bool (signed i) (λ e. e) (λ e. absurd (omega (arith, rw e at h)))

  coded_below : (far : ℕ) → 0 < far → far ≤ under i → Coded true far (codes i - far)
  coded_below far some h =
      let s : signed i ≡ true = under_signed far some h in
      let u = under_half i r in
      let low : code_below i (codes i - far) ≡ true = rw (s, le-leb (half i) (codes i - far) (omega (arith, r.halves))) in
      record {
        fits = omega (arith, r.halves, some_half);
        no_mark =
            by_bool (is_marked i.sign)
            (λ e. let k : far ≤ steps i = rw (s, e) at h in rw (e, ne_eqb (codes i - far) (half i) (λ q. omega (arith, r.halves, steps_half s))))
            (λ e. rw e);
        side_of = low ∙ sym (lt-ltb 0 far some);
        far_of = rw low (omega (arith, r.halves));
      }

  coded_at : (below : Bool) (far : ℕ) → (below ≡ true → far ≤ under i) → (below ≡ false → far ≤ steps i) → Coded below far (code_at i below far)
  coded_at false far down high = coded_above far (high refl)
  coded_at true zero down high =
      let k = coded_above zero (omega arith) in
      record { fits = k.fits; no_mark = k.no_mark; side_of = k.side_of; far_of = k.far_of }
  coded_at true (suc far) down high = rw (lt-ltb 0 (suc far) (omega arith)) (coded_below (suc far) (omega arith) (down refl))

  -- the code of a value inside the range
  module _ (v : ℤ) (e : is_outside i v ≡ false) where
    low_codes : value_below i v ≡ true → codes_away i v ≤ under i
    low_codes b = below_codes i r (value_far i v) (far_below i r v b (neither_left (lt_z v i.low) _ e))

    high_codes : value_below i v ≡ false → codes_away i v ≤ steps i
    high_codes b = nearest_top (value_far i v) (reach i) (steps i) r.some (far_above i r v b (neither_right (lt_z v i.low) _ e))

    pub code_coded : Coded (value_below i v) (codes_away i v) (code_of i v)
    unfolding code_of
    code_coded = coded_at (value_below i v) (codes_away i v) low_codes high_codes

    pub few_codes : codes_away i v ≤ codes i
    few_codes = by_bool (value_below i v) (λ b. omega (arith, low_codes b, under_half i r, r.halves)) (λ b. omega (arith, high_codes b, steps_codes))

  -- how far a code that is a number may be from the origin
  pub far_down : (code : ℕ) → is_number i code ≡ true → code_below i code ≡ true → code_far i code ≤ under i
  far_down code e b =
      let s : signed i ≡ true = both_left (signed i) _ b in
      let h : half i ≤ code = leb-true (half i) code (both_right (signed i) _ b) in
      let n : not (is_mark i code) ≡ true = both_right (ltb code (codes i)) _ e in
      rw (b, s)
      (by_bool (is_marked i.sign)
      (λ m. let o : (code ≡ half i → ⊥) = eqb-false code (half i) (not-true (eqb code (half i)) (rw m at n)) in
      rw m (omega (arith, r.halves, steps_signed i r s)))
      (λ m. rw m (omega (arith, r.halves))))

  pub far_up : (code : ℕ) → is_number i code ≡ true → code_below i code ≡ false → code_far i code ≤ steps i
  far_up code e b =
      rw b
      (by_bool (signed i)
      (λ s. omega (arith, leb-false (half i) code (rw s at b), steps_signed i r s))
      (λ s. omega (arith, number_fits i r code e, steps_unsigned i r s)))

  -- the value of a code is inside the range
  pub house_inside : (code : ℕ) → is_number i code ≡ true → is_outside i (house_of i code) ≡ false
  unfolding house_of reach
  house_inside code e =
      let o = origin i in
      between i.low i.high o (house_of i code) (depth i) (reach i) (units_away i code) (code_below i code)
      (up i.low o r.low_below ∙ ap pos (nat_abs_turn o i.low))
      (up o i.high r.high_above)
      (to_origin o _)
      (λ b. let most = mul-le-mul_right (reach i) (far_down code e b) in
      omega (arith, nearest_grows (code_far i code * reach i) (under i * reach i) (steps i) (some_steps i r) most, r.under_inside))
      (λ b. nearest_top (code_far i code) (steps i) (reach i) (some_steps i r) (far_up code e b))
