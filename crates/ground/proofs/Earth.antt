-- W-203's laws of numbers: a longitude that is brought back is the same modulo a turn, lies in the range, and is the only one that does;
-- one within the range stays.
-- Assumes nothing.
use Prim.Native.Nat.{ℕ, zero, suc, ◌+◌, ◌-◌, ◌*◌, ◌^◌, ◌<◌, ◌≤◌}
use native.Mathlib.Omega.{arith}
use mathlib.Core.Path.{◌≡◌, sym, ap, ◌∙◌}
use mathlib.Core.Bool.{true, false}
use lib.Dec.{ltb, leb}
use lib.IntN.{ℤ, pos, negsuc, neg_ℤ, sub_ℕ, ◌+ℤ◌, ◌*ℤ◌, +ℤ_idr, -ℤ-+ℤ_cancel}
use lib.Signed.{mag}
use mir.Syntax.{w64}
use mir.Val.{SFits}
use borrow.Author.Tests.{lt-ltb, le-ltb, le-leb, lt-leb, ltb-true, leb-true}
use Rattle.base.proofs.Cases.{by_lt}
use Rattle.base.proofs.Every.{both_left}
use Rattle.ground.specs.Earth.{one_turn, turn_for, brought_back, in_range}

-- the turn, by the number
turns_down : (n : ℕ) → 1800000000 ≤ n → turn_for (pos n) ≡ neg_ℤ one_turn
unfolding turn_for
turns_down n h = rw (le-leb 1800000000 n h)

turns_up : (n : ℕ) → 1800000000 ≤ n → turn_for (negsuc n) ≡ one_turn
unfolding turn_for
turns_up n h = rw (lt-ltb 1799999999 n (omega (arith, h)))

turns_none : (v : ℤ) → in_range v ≡ true → turn_for v ≡ pos 0
unfolding turn_for
turns_none (pos n) e = rw (lt-leb 1800000000 n (ltb-true n 1800000000 e))
turns_none (negsuc n) e = rw (le-ltb 1799999999 n (leb-true n 1799999999 (both_left (leb n 1799999999) _ e)))

-- one in the range stays as it is
pub range_stays : (v : ℤ) → in_range v ≡ true → brought_back v ≡ v
range_stays v e = ap (λ t. v +ℤ t) (turns_none v e) ∙ +ℤ_idr v

-- in the range, or a turn away
by_range : {C : ℤ → Type 0} → ((v : ℤ) → in_range v ≡ true → C v) → ((n : ℕ) → 1800000000 ≤ n → C (pos n)) → ((n : ℕ) → 1800000000 ≤ n → C (negsuc n))
    → (v : ℤ) → C v
by_range inside east west (pos n) = by_lt n 1800000000 (λ h. inside (pos n) (lt-ltb n 1800000000 h)) (east n)
by_range inside east west (negsuc n) =
    by_lt n 1800000000 (λ h. inside (negsuc n) (rw (le-leb n 1799999999 (omega (arith, h))))) (west n)

-- one turn is enough for all from -540 degrees to below 540
east_range : (n : ℕ) → 1800000000 ≤ n → n < 5400000000 → in_range (brought_back (pos n)) ≡ true
east_range n h k =
    by_lt n 3600000000
    (λ l. rw (turns_down n h, lt-ltb n 3600000000 l, le-leb (3600000000 - suc n) 1799999999 (omega (arith, h))))
    (λ l. rw (turns_down n h, le-ltb n 3600000000 l, lt-ltb (n - 3600000000) 1800000000 (omega (arith, k))))

west_range : (n : ℕ) → 1800000000 ≤ n → n < 5400000000 → in_range (brought_back (negsuc n)) ≡ true
west_range n h k =
    by_lt 3600000000 (suc n)
    (λ l. rw (turns_up n h, lt-ltb 3600000000 (suc n) l, le-leb (suc n - 3600000001) 1799999999 (omega (arith, k))))
    (λ l. rw (turns_up n h, le-ltb 3600000000 (suc n) l, lt-ltb (3600000000 - suc n) 1800000000 (omega (arith, h))))

pub back_in_range : (v : ℤ) → mag v < 5400000000 → in_range (brought_back v) ≡ true
back_in_range = by_range (λ v e k. rw (range_stays v e) e) east_range west_range

-- equal modulo a turn: so many whole turns apart
pub record Modulo (v w : ℤ) : Type 0 where
  pub turns : ℤ
  pub apart : w ≡ v +ℤ turns *ℤ one_turn

pub back_modulo : (v : ℤ) → Modulo v (brought_back v)
back_modulo =
    by_range
    (λ v e. record { turns = pos 0; apart = ap (λ t. v +ℤ t) (turns_none v e) })
    (λ n h. record { turns = negsuc 0; apart = ap (λ t. pos n +ℤ t) (turns_down n h) })
    (λ n h. record { turns = pos 1; apart = ap (λ t. negsuc n +ℤ t) (turns_up n h) })

-- and no two longitudes in the range are, but for one and the same
east_apart : (v : ℤ) (n : ℕ) → in_range v ≡ true → in_range (v +ℤ pos (suc n * 3600000000)) ≡ true → ⊥
east_apart (pos m) n e f = omega (arith, ltb-true (m + suc n * 3600000000) 1800000000 f)
east_apart (negsuc m) n e f =
    let west : m ≤ 1799999999 = leb-true m 1799999999 (both_left (leb m 1799999999) _ e) in
    let past : ltb (suc n * 3600000000) (suc m) ≡ false = le-ltb (suc n * 3600000000) (suc m) (omega (arith, west)) in
    omega (arith, west, ltb-true (suc n * 3600000000 - suc m) 1800000000 (rw past at f))

pub only_one : (v w : ℤ) → in_range v ≡ true → in_range w ≡ true → Modulo v w → v ≡ w
only_one v w e f m = go m.turns m.apart
  where
    go : (t : ℤ) → w ≡ v +ℤ t *ℤ one_turn → v ≡ w
    go (pos zero) a = sym (a ∙ +ℤ_idr v)
    go (pos (suc n)) a = absurd (east_apart v n e (rw a at f))
    go (negsuc n) a = absurd (east_apart w n f (rw (back a) at e))
      where
        back : w ≡ v +ℤ neg_ℤ (pos (suc n * 3600000000)) → v ≡ w +ℤ pos (suc n * 3600000000)
        back a = sym (ap (λ x. x +ℤ pos (suc n * 3600000000)) a ∙ -ℤ-+ℤ_cancel v (pos (suc n * 3600000000)))

-- a turn stays within 64 bits
sub_fits : (a b : ℕ) → a < 2 ^ 63 → b ≤ 2 ^ 63 → SFits w64 (sub_ℕ a b)
sub_fits a b h k =
    by_lt a b
    (λ l. rw (lt-ltb a b l) (record { sfits = omega (arith, h, k) }))
    (λ l. rw (le-ltb a b l) (record { sfits = omega (arith, h, k) }))

pub back_fits : (v : ℤ) → SFits w64 v → SFits w64 (brought_back v)
back_fits =
    by_range
    (λ v e s. rw (range_stays v e) s)
    (λ n h s. rw (turns_down n h) (sub_fits n 3600000000 s.sfits (omega arith)))
    (λ n h s. rw (turns_up n h) (sub_fits 3600000000 (suc n) (omega arith) s.sfits))
