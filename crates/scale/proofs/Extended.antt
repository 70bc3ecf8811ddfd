-- W-202's mapping, each law once over the length: the number shown is the nearest, the code sent is the greatest whose exact value is not above
-- the value, and what there and back gives.
-- Assumes nothing.
use Prim.Native.Nat.{ℕ, zero, suc, ◌+◌, ◌-◌, ◌*◌, ◌^◌, ◌<◌, ◌≤◌}
use native.Mathlib.Omega.{arith}
use native.Mathlib.Nat.{one-le-pow, pow-le-pow_right, mul_comm, mul-add, mul-sub, mul-le-mul, mul-le-mul_right}
use mathlib.Core.Path.{◌≡◌, refl, sym, ap, ap₂, ◌∙◌}
use mathlib.Core.Bool.{Bool, true, false, cond, ◌&&◌}
use lib.Dec.{ltb, leb}
use lib.IntN.{ℤ, pos, neg_ℤ, nat_abs, ◌+ℤ◌, ◌-ℤ◌, ◌*ℤ◌, +ℤ_idr, neg_ℤ-neg_ℤ}
use lib.Signed.{mag, lt_z}
use borrow.Author.Tests.{ltb-true, ltb-false, lt-ltb, le-ltb, leb-true, le-leb}
use Rattle.base.proofs.Cases.{by_lt, clash}
use Rattle.base.proofs.Every.{both_left, both_right, both_true}
use Rattle.catalogue.specs.Extended.{per_two_metres, in_reach}
use Rattle.scale.specs.Nearest.{nearest}
use Rattle.scale.specs.Scales.{beyond, side}
use Rattle.scale.specs.Extended.{low_end, high_end, extended_house, extended_code, extended_miss, is_above}
use Rattle.scale.proofs.Nearest.{gap, IsNearest, nearest_is, nearest_only, nearest_whole, nearest_none, nearest_grows}
use Rattle.scale.proofs.Whole.{up, inside_small, sided, turn, through, nat_abs_turn, gap_is, from_origin, to_origin, far_sum, side_below}
use Rattle.scale.proofs.Sides.{side_times, one_side, side_nearest, side_tie, pos_minus, nat_abs_from}
use Rattle.scale.proofs.Items.{neither_left, neither_right}
use Rattle.scale.proofs.Numbers.{between}

-- a number from which another is so far up is below it, unless they are the same
less : (w v : ℤ) (j : ℕ) → v -ℤ w ≡ pos j → (w ≡ v → ⊥) → lt_z w v ≡ true
less w v zero e other = absurd (other (sym (+ℤ_idr w) ∙ (ap (λ x. w +ℤ x) (sym e) ∙ from_origin w v)))
less w v (suc j) e other =
    ap (λ x. lt_z x v) (sym (from_origin v w) ∙ ap (λ x. v +ℤ x) (sym (turn v w) ∙ ap neg_ℤ e))
    ∙ (side_below v true (suc j) ∙ lt-ltb 0 (suc j) (omega arith))

-- a code in reach has an allowed length, and is not beyond the high end
pub reach_length : (n code : ℕ) → in_reach n code ≡ true → leb 2 n && leb n 4 ≡ true
unfolding in_reach
reach_length n code e = both_true (leb 2 n) _ (both_left (leb 2 n) _ e) (both_left (leb n 4) _ (both_right (leb 2 n) _ e))

pub reach_code : (n code : ℕ) → in_reach n code ≡ true → 2 * code ≤ 40900 * per_two_metres n
unfolding in_reach
reach_code n code e = leb-true (2 * code) (40900 * per_two_metres n) (both_right (leb n 4) _ (both_right (leb 2 n) _ e))

pub in-reach : (n code : ℕ) → leb 2 n && leb n 4 ≡ true → 2 * code ≤ 40900 * per_two_metres n → in_reach n code ≡ true
unfolding in_reach
in-reach n code e h = rw (both_left (leb 2 n) _ e, both_right (leb 2 n) _ e) (le-leb (2 * code) (40900 * per_two_metres n) h)

ends_apart : high_end -ℤ low_end ≡ pos 40900000
unfolding low_end high_end
ends_apart = refl

low_itself : low_end -ℤ low_end ≡ pos 0
unfolding low_end
low_itself = refl

pub ends_small : (v : ℤ) → beyond low_end high_end v ≡ false → mag v < 2 ^ 62
unfolding low_end high_end
ends_small v e =
    inside_small low_end high_end v (omega arith) (omega arith) (neither_left (lt_z v low_end) _ e) (neither_right (lt_z v low_end) _ e)

-- a value between the ends, counted from the low end
pub between_far : (v : ℤ) → beyond low_end high_end v ≡ false → v -ℤ low_end ≡ pos (nat_abs (v -ℤ low_end))
between_far v e = up low_end v (neither_left (lt_z v low_end) _ e)

pub between_few : (v : ℤ) → beyond low_end high_end v ≡ false → nat_abs (v -ℤ low_end) ≤ 40900000
between_few v e =
    omega (
      arith,
      far_sum low_end v high_end (neither_left (lt_z v low_end) _ e) (neither_right (lt_z v low_end) _ e),
      ap nat_abs ends_apart,
    )

module _ (n : ℕ) where
  pub some_codes : 0 < per_two_metres n
  some_codes = one-le-pow (8 * n - 16) 2 (omega arith)

  -- what is shown, counted from the low end
  unfoldable pub shown : ℕ → ℕ
  shown code = nearest (code * 2000) (per_two_metres n)

  pub shown_far : (code : ℕ) → extended_house n code -ℤ low_end ≡ pos (shown code)
  unfolding extended_house shown
  shown_far code = to_origin low_end _

  shown_is : (code : ℕ) → IsNearest (code * 2000) (per_two_metres n) (shown code)
  unfolding shown
  shown_is code = nearest_is (code * 2000) (per_two_metres n) some_codes

  pub shown_few : (code : ℕ) → in_reach n code ≡ true → shown code ≤ 40900000
  unfolding shown
  shown_few code e =
      let q = per_two_metres n in
      omega (
        arith,
        nearest_grows (code * 2000) (q * 40900000) q some_codes (omega (arith, reach_code n code e)),
        nearest_whole 40900000 q some_codes,
      )

  -- the value of a code in reach is between the ends, and the code of a value between the ends is in reach
  pub height_inside : (code : ℕ) → in_reach n code ≡ true → beyond low_end high_end (extended_house n code) ≡ false
  height_inside code e =
      between low_end high_end low_end (extended_house n code) 0 40900000 (shown code) false low_itself ends_apart (shown_far code)
      (λ b. clash (sym b)) (λ b. shown_few code e)

  pub sent_in_reach : (v : ℤ) → leb 2 n && leb n 4 ≡ true → beyond low_end high_end v ≡ false → in_reach n (extended_code n v) ≡ true
  unfolding extended_code
  sent_in_reach v l e = in-reach n _ l (omega (arith, mul-le-mul_right (per_two_metres n) (between_few v e)))

  above_is : (code : ℕ) (v : ℤ) (k : ℕ) → v -ℤ low_end ≡ pos k → is_above n code v ≡ ltb (k * per_two_metres n) (code * 2000)
  unfolding is_above
  above_is code v k e = rw e

  above : (code : ℕ) (v : ℤ) (k : ℕ) → v -ℤ low_end ≡ pos k → is_above n code v ≡ true → k * per_two_metres n < code * 2000
  above code v k e a = ltb-true (k * per_two_metres n) (code * 2000) (sym (above_is code v k e) ∙ a)

  not_above : (code : ℕ) (v : ℤ) (k : ℕ) → v -ℤ low_end ≡ pos k → is_above n code v ≡ false → code * 2000 ≤ k * per_two_metres n
  not_above code v k e a = ltb-false (k * per_two_metres n) (code * 2000) (sym (above_is code v k e) ∙ a)

  miss_is : (code : ℕ) (v : ℤ) (b : Bool) (k : ℕ) → v -ℤ low_end ≡ side b k
      → extended_miss n code v ≡ nat_abs (side false (code * 2000) -ℤ side b (k * per_two_metres n))
  unfolding extended_miss
  miss_is code v b k e =
      ap (λ x. nat_abs (x -ℤ pos (code * 2000))) (ap (λ x. x *ℤ pos (per_two_metres n)) e ∙ side_times b k (per_two_metres n))
      ∙ nat_abs_turn (side b (k * per_two_metres n)) (pos (code * 2000))

  -- "house numbers round to nearest, a tie upward": no number is nearer, and of two that are equally near the upper one is shown
  pub record NearestHeight (code : ℕ) (v : ℤ) : Type 0 where
    pub within : 2 * extended_miss n code v ≤ per_two_metres n
    pub none_nearer : (w : ℤ) → extended_miss n code v ≤ extended_miss n code w
    pub tie_upward : (w : ℤ) → (w ≡ v → ⊥) → extended_miss n code w ≡ extended_miss n code v → lt_z w v ≡ true
    pub half_upward : 2 * extended_miss n code v ≡ per_two_metres n → is_above n code v ≡ false

  module _ (code : ℕ) where
    v : ℤ
    v = extended_house n code

    p : ℕ
    p = code * 2000

    q : ℕ
    q = per_two_metres n

    own : extended_miss n code v ≡ nat_abs (side false p -ℤ side false (nearest p q * q))
    unfolding v p q shown
    own = miss_is code v false (shown code) (shown_far code)

    own_gap : extended_miss n code v ≡ gap p (shown code * q)
    unfolding p q shown
    own_gap = own ∙ one_side false p (nearest p q * q)

    other : (w : ℤ) → extended_miss n code w ≡ nat_abs (side false p -ℤ side (lt_z w low_end) (nat_abs (w -ℤ low_end) * q))
    unfolding p q
    other w = miss_is code w (lt_z w low_end) (nat_abs (w -ℤ low_end)) (sided low_end w)

    closest : (w : ℤ) → extended_miss n code v ≤ extended_miss n code w
    unfolding q
    closest w = rw (own, other w) (side_nearest false (lt_z w low_end) (nat_abs (w -ℤ low_end)) p q some_codes)

    -- a number that is as near is no farther up
    upward : (w : ℤ) → (w ≡ v → ⊥) → extended_miss n code w ≡ extended_miss n code v → lt_z w v ≡ true
    unfolding p q v shown
    upward w ne e =
        let k = nat_abs (w -ℤ low_end) in
        let few : k ≤ shown code = side_tie false (lt_z w low_end) k p q some_codes (sym own ∙ (sym e ∙ other w)) in
        less w v _
        (sym (through v low_end w)
        ∙ (ap₂ (λ x y. x +ℤ y) (shown_far code) (sym (turn w low_end) ∙ ap neg_ℤ (sided low_end w)) ∙ apart (lt_z w low_end) k (shown code) few))
        ne
      where
        apart : (b : Bool) (k m : ℕ) → k ≤ m → pos m -ℤ side b k ≡ pos (cond b (m + k) (m - k))
        apart true k m h = ap (λ z. pos m +ℤ z) (neg_ℤ-neg_ℤ (pos k))
        apart false k m h = pos_minus k m h

    half_up : 2 * extended_miss n code v ≡ q → is_above n code v ≡ false
    unfolding p q v
    half_up e =
        above_is code v (shown code) (shown_far code)
        ∙ le-ltb (shown code * per_two_metres n) (code * 2000) (omega (arith, own_gap, shown_is code, mul_comm (shown code) (per_two_metres n), some_codes))

  pub nearest_height : (code : ℕ) → NearestHeight code (extended_house n code)
  unfolding v p q
  nearest_height code =
      record {
        within = omega (arith, own_gap code, shown_is code, mul_comm (shown code) (per_two_metres n));
        none_nearer = closest code;
        tie_upward = upward code;
        half_upward = half_up code;
      }

  -- what the code works out fits
  pub few_codes : n ≤ 4 → per_two_metres n ≤ 65536
  few_codes h = pow-le-pow_right {n = 2} (omega arith) {i = 8 * n - 16} {j = 16} (omega arith)

  pub code_small : (code : ℕ) → in_reach n code ≡ true → code * 2000 < 2 ^ 62
  code_small code e =
      let h = leb-true n 4 (both_right (leb 2 n) _ (reach_length n code e)) in
      omega (arith, reach_code n code e, few_codes h)

  pub product_small : (v : ℤ) → n ≤ 4 → beyond low_end high_end v ≡ false → nat_abs (v -ℤ low_end) * per_two_metres n < 2 ^ 63
  product_small v h e = omega (arith, mul-le-mul (between_few v e) (few_codes h))

  -- "sending cuts down to the code below": the greatest whose exact value is not above the value
  pub record CodeBelow (v : ℤ) (c : ℕ) : Type 0 where
    pub not_above : is_above n c v ≡ false
    pub greatest : (d : ℕ) → is_above n d v ≡ false → d ≤ c

  -- the code sent, times a step, is at most one step short of the value
  record Cut (far c : ℕ) : Type 0 where
    reached : c * 2000 ≤ far * per_two_metres n
    next : far * per_two_metres n < c * 2000 + 2000

  cut : (v : ℤ) → Cut (nat_abs (v -ℤ low_end)) (extended_code n v)
  unfolding extended_code
  cut v = record { reached = omega arith; next = omega arith }

  pub code-below : (v : ℤ) → beyond low_end high_end v ≡ false → CodeBelow v (extended_code n v)
  code-below v e =
      let k = cut v in
      let c = extended_code n v in
      let far = nat_abs (v -ℤ low_end) in
      record {
        not_above = above_is c v far (between_far v e) ∙ le-ltb (far * per_two_metres n) (c * 2000) k.reached;
        greatest = λ d a. omega (arith, not_above d v far (between_far v e) a, k.next);
      }

  -- "Here document 01's half step is a whole step": a step is 2000 / per_two_metres n house units
  pub within_step : (v : ℤ) → beyond low_end high_end v ≡ false
      → 2 * (per_two_metres n * nat_abs (extended_house n (extended_code n v) -ℤ v)) ≤ 4000 + per_two_metres n
  within_step v e =
      let c = extended_code n v in
      let y = shown c in
      let x = nat_abs (v -ℤ low_end) in
      let d = per_two_metres n in
      let gone : nat_abs (extended_house n c -ℤ v) ≡ gap y x =
      nat_abs_from low_end (extended_house n c) v ∙ (ap₂ (λ x y. nat_abs (x -ℤ y)) (shown_far c) (between_far v e) ∙ gap_is y x) in
      rw (gone, mul-add d (y - x) (x - y), mul-sub d y x, mul-sub d x y) (omega (arith, cut v, shown_is c, mul_comm x d))

  -- "a 3-byte code whose value was rounded down comes back one lower", and any other as it was, where a step is a house unit or more
  pub record CodeBack (code : ℕ) (v : ℤ) (c : ℕ) : Type 0 where
    pub one_lower : is_above n code v ≡ true → suc c ≡ code
    pub the_same : is_above n code v ≡ false → c ≡ code

  pub code_back : (code : ℕ) → per_two_metres n ≤ 2000 → CodeBack code (extended_house n code) (extended_code n (extended_house n code))
  code_back code coarse =
      let v = extended_house n code in
      let k = cut v in
      let far = ap nat_abs (shown_far code) in
      let s = shown_is code in
      let m = mul_comm (shown code) (per_two_metres n) in
      record {
        one_lower = λ a. omega (arith, above code v (shown code) (shown_far code) a, rw far at k.reached, rw far at k.next);
        the_same = λ a. omega (arith, not_above code v (shown code) (shown_far code) a, rw far at k.reached, rw far at k.next);
      }

  -- where a step is half a house unit or less, which the cut needs, the value comes back
  pub value_back : (v : ℤ) → beyond low_end high_end v ≡ false → 4000 ≤ per_two_metres n → extended_house n (extended_code n v) ≡ v
  unfolding extended_house
  value_back v e fine =
      let c = extended_code n v in
      let x = nat_abs (v -ℤ low_end) in
      let k = cut v in
      let m = mul_comm x (per_two_metres n) in
      let same : nearest (c * 2000) (per_two_metres n) ≡ x =
      nearest_only (c * 2000) (per_two_metres n) x (record { over = omega (arith, k.next); under = omega (arith, k.reached) }) in
      ap (λ z. low_end +ℤ pos z) same ∙ (ap (λ z. low_end +ℤ z) (sym (between_far v e)) ∙ from_origin low_end v)

  -- a step smaller than a house unit is at most half of one: of the lengths only 4 has it
  pub fine_half : 2000 < per_two_metres n → 4000 ≤ per_two_metres n
  fine_half h =
      by_lt n 4
      (λ l. absurd (omega (arith, pow-le-pow_right {n = 2} (omega arith) {i = 8 * n - 16} {j = 8} (omega arith))))
      (λ l. omega (arith, pow-le-pow_right {n = 2} (omega arith) {i = 16} {j = 8 * n - 16} (omega arith)))

  -- which lengths have which steps
  pub coarse_length : n ≤ 3 → per_two_metres n < 2000
  coarse_length h = omega (arith, pow-le-pow_right {n = 2} (omega arith) {i = 8 * n - 16} {j = 8} (omega arith))

  pub fine_length : 4 ≤ n → 2000 < per_two_metres n
  fine_length h = omega (arith, pow-le-pow_right {n = 2} (omega arith) {i = 16} {j = 8 * n - 16} (omega arith))

  -- where a step is whole house units no value is rounded
  pub whole_back : (code : ℕ) → per_two_metres n ≡ 1 → extended_code n (extended_house n code) ≡ code
  whole_back code one =
      let s = shown_is code in
      (code_back code (omega arith)).the_same
      (above_is code (extended_house n code) (shown code) (shown_far code)
      ∙ le-ltb (shown code * per_two_metres n) (code * 2000) (omega (arith, mul_comm (shown code) (per_two_metres n), rw one at s.under)))

  -- the ends are shown, by the lowest code and by the highest in reach
  pub lowest_shown : extended_house n 0 ≡ low_end
  unfolding extended_house
  lowest_shown = ap (λ x. low_end +ℤ pos x) (nearest_none (per_two_metres n) some_codes) ∙ +ℤ_idr low_end

  pub highest_shown : extended_house n (20450 * per_two_metres n) ≡ high_end
  unfolding extended_house
  highest_shown =
      let e : 20450 * per_two_metres n * 2000 ≡ per_two_metres n * 40900000 = omega arith in
      ap (λ x. low_end +ℤ pos x) (ap (λ x. nearest x (per_two_metres n)) e ∙ nearest_whole 40900000 (per_two_metres n) some_codes)
      ∙ (ap (λ x. low_end +ℤ x) (sym ends_apart) ∙ from_origin low_end high_end)
