-- To a code: no other code is nearer to the value, and of two codes at equal distance the one farther from the low end, or from zero, is given.
-- This is of the items with a width; W-202 changed it for extended heights (Heights).
-- Assumes nothing.
use Prim.Native.Nat.{ℕ, ◌-◌, ◌*◌, ◌<◌, ◌≤◌}
use native.Mathlib.Omega.{arith}
use native.Mathlib.Nat.{zero-mul}
use mathlib.Core.Path.{◌≡◌, sym, ap, ap₂, ◌∙◌}
use mathlib.Core.Bool.{Bool, true, false, not}
use lib.IntN.{ℤ, nat_abs, ◌-ℤ◌}
use borrow.Author.Tests.{lt-ltb}
use Rattle.base.proofs.Cases.{by_bool, by_lt, clash}
use Rattle.base.proofs.Every.{both_left}
use Rattle.refusal.specs.Answer.{given}
use Rattle.catalogue.specs.Items.{item_of}
use Rattle.catalogue.specs.Extended.{is_extended}
use Rattle.catalogue.specs.declared.Item.{Item}
use Rattle.scale.specs.Nearest.{nearest}
use Rattle.scale.specs.Scales.{codes, origin, reach, steps, is_number, is_outside, code_below, code_far, value_below, value_far, side}
use Rattle.scale.specs.Conversions.{code_of, to_code}
use Rattle.scale.specs.Exact.{miss}
use Rattle.scale.specs.code.Rule.{Rule}
use Rattle.scale.specs.declared.Code.{Code}
use Rattle.scale.proofs.Whole.{sided}
use Rattle.scale.proofs.Sides.{side_drop, side_nearest, side_tie, other_side_tie}
use Rattle.scale.proofs.Items.{number_fits}
use Rattle.scale.proofs.Numbers.{Coded, code_coded}
use Rattle.scale.proofs.Given.{scaled_rule, code-given, code_is_number}
use Rattle.scale.proofs.Values.{miss_is}
use Rattle.std.specs.Prelude.{Some}

pub record NearestCode (i : Item) (v : ℤ) (code : ℕ) : Type 0 where
  pub none_nearer : (other : ℕ) → is_number i other ≡ true → miss i code v ≤ miss i other v
  pub tie_away : (other : ℕ) → is_number i other ≡ true → (other ≡ code → ⊥) → miss i other v ≡ miss i code v → code_far i other < code_far i code

-- a code that is a number is known by its side and its distance, and below the origin it is at some distance
module _ (i : Item) (r : Rule i) where
  pub below_some : (code : ℕ) → is_number i code ≡ true → code_below i code ≡ true → 0 < code_far i code
  below_some code n b = rw b (omega (arith, number_fits i r code n))

  told : (c d : ℕ) → is_number i c ≡ true → is_number i d ≡ true → code_below i c ≡ code_below i d → code_far i c ≡ code_far i d → c ≡ d
  told c d m n b f =
      by_bool (code_below i c)
      (λ e. omega (arith, number_fits i r c m, number_fits i r d n, sym (same c e) ∙ (f ∙ same d (sym b ∙ e))))
      (λ e. sym (plain c e) ∙ (f ∙ plain d (sym b ∙ e)))
    where
      same : (c : ℕ) → code_below i c ≡ true → code_far i c ≡ codes i - c
      same c e = rw e

      plain : (c : ℕ) → code_below i c ≡ false → code_far i c ≡ c
      plain c e = rw e

  module _ (v : ℤ) (inside : is_outside i v ≡ false) where
    b : Bool
    b = value_below i v

    p : ℕ
    p = value_far i v * steps i

    c : ℕ
    c = code_of i v

    coded : Coded i r b (nearest p (reach i)) c
    unfolding b p c
    coded = code_coded i r v inside

    -- the miss of any code, and of the one given
    other_miss : (d : ℕ) → miss i d v ≡ nat_abs (side b p -ℤ side (code_below i d) (code_far i d * reach i))
    unfolding b p
    other_miss d = miss_is i d v (value_below i v) (value_far i v) (sided (origin i) v)

    own_miss : miss i c v ≡ nat_abs (side b p -ℤ side b (nearest p (reach i) * reach i))
    own_miss =
        other_miss c
        ∙ ap (λ z. nat_abs (side b p -ℤ z))
        (ap₂ (λ x y. side x (y * reach i)) coded.side_of coded.far_of
        ∙ side_drop b (nearest p (reach i)) (nearest p (reach i) * reach i) (λ z. rw z (zero-mul (reach i))))

    closest : (d : ℕ) → miss i c v ≤ miss i d v
    closest d = rw (own_miss, other_miss d) (side_nearest b (code_below i d) (code_far i d) p (reach i) r.some)

    module _ (number : is_number i c ≡ true) (d : ℕ) (n : is_number i d ≡ true) (tie : miss i d v ≡ miss i c v) where
      tied : nat_abs (side b p -ℤ side b (nearest p (reach i) * reach i)) ≡ nat_abs (side b p -ℤ side (code_below i d) (code_far i d * reach i))
      tied = sym own_miss ∙ (sym tie ∙ other_miss d)

      no_farther : code_far i d ≤ code_far i c
      no_farther = rw coded.far_of (side_tie b (code_below i d) (code_far i d) p (reach i) r.some tied)

      -- on the other side the two could only be at no distance
      across : code_below i d ≡ not b → code_far i d ≡ 0
      across e = other_side_tie b (code_far i d) p (reach i) r.some (tied ∙ ap (λ x. nat_abs (side b p -ℤ side x (code_far i d * reach i))) e)

      only : code_far i d ≡ code_far i c → d ≡ c
      only same =
          by_bool (code_below i c)
          (λ x. by_bool (code_below i d)
          (λ y. told d c n number (y ∙ sym x) same)
          (λ y. let up : b ≡ true = both_left b _ (sym coded.side_of ∙ x) in
          absurd (omega (arith, below_some c number x, across (y ∙ sym (ap not up))))))
          (λ x. by_bool (code_below i d)
          (λ y. absurd (omega (arith, below_some d n y, across (y ∙ sym (ap not (down x (omega (arith, below_some d n y, coded.far_of))))))))
          (λ y. told d c n number (y ∙ sym x) same))
        where
          down : code_below i c ≡ false → 0 < nearest p (reach i) → b ≡ false
          down x some = by_bool b (λ e. clash (sym (rw (e, lt-ltb 0 (nearest p (reach i)) some) at coded.side_of) ∙ x)) (λ e. e)

    away : is_number i c ≡ true → (d : ℕ) → is_number i d ≡ true → (d ≡ c → ⊥) → miss i d v ≡ miss i c v → code_far i d < code_far i c
    away number d n ne tie =
        by_lt (code_far i d) (code_far i c)
        (λ h. h)
        (λ h. absurd (ne (only number d n tie (omega (arith, no_farther number d n tie)))))

  nearest_code : (v : ℤ) → is_outside i v ≡ false → is_number i (code_of i v) ≡ true → NearestCode i v (code_of i v)
  unfolding c
  nearest_code v inside number = record { none_nearer = λ d n. closest v inside d; tie_away = away v inside number }

pub code_nearest : (t n : ℕ) (v : ℤ) (i : Item) (c : Code) → item_of t ≡ Some i → is_extended t ≡ false → to_code t n v ≡ given c
    → NearestCode i v c.code
code_nearest t n v i c e x p =
    let g = code-given t n v i c e x p in
    rw g.made (nearest_code i (scaled_rule g.scale) v g.fit (code_is_number g.scale v g.fit))
