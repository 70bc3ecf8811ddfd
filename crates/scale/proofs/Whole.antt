-- Whole numbers: differences, how far apart two are, and that what the code works out fits 64 bits.
-- Assumes nothing.
use Prim.Native.Nat.{ℕ, zero, suc, ◌+◌, ◌-◌, ◌^◌, ◌<◌, ◌≤◌}
use native.Mathlib.Omega.{arith}
use mathlib.Core.Path.{◌≡◌, refl, sym, ap, ap₂, ◌∙◌}
use mathlib.Core.Bool.{Bool, true, false, ◌&&◌}
use lib.Dec.{ltb}
use lib.IntN.{ℤ, pos, negsuc, neg_ℤ, nat_abs, sub_ℕ, ◌+ℤ◌, ◌-ℤ◌, neg_ℤ-neg_ℤ, neg_ℤ-+ℤ, +ℤ_comm, +ℤ_assoc, +ℤ-neg_ℤ_cancel, -ℤ-+ℤ_cancel}
use lib.Signed.{mag, lt_z}
use mir.Syntax.{w64}
use mir.Val.{SFits}
use borrow.Author.Tests.{lt-ltb, le-ltb, ltb-false, ltb-true}
use Rattle.base.proofs.Cases.{by_lt, by_bool, clash}
use Rattle.scale.specs.Scales.{side}
use Rattle.scale.proofs.Nearest.{gap}

pub gap_is : (a b : ℕ) → nat_abs (pos a -ℤ pos b) ≡ gap a b
gap_is a zero = omega arith
gap_is a (suc b) =
    by_lt a (suc b)
    (λ h. rw (lt-ltb a (suc b) h) (omega arith))
    (λ h. rw (le-ltb a (suc b) h) (omega arith))

pub nat_abs_neg : (z : ℤ) → nat_abs (neg_ℤ z) ≡ nat_abs z
nat_abs_neg (pos zero) = refl
nat_abs_neg (pos (suc n)) = refl
nat_abs_neg (negsuc n) = refl

pub nat_abs_side : (b : Bool) (m : ℕ) → nat_abs (side b m) ≡ m
nat_abs_side true m = nat_abs_neg (pos m)
nat_abs_side false m = refl

pub turn : (a b : ℤ) → neg_ℤ (a -ℤ b) ≡ b -ℤ a
turn a b = neg_ℤ-+ℤ a (neg_ℤ b) ∙ ap (λ x. neg_ℤ a +ℤ x) (neg_ℤ-neg_ℤ b) ∙ +ℤ_comm (neg_ℤ a) b

pub nat_abs_turn : (a b : ℤ) → nat_abs (a -ℤ b) ≡ nat_abs (b -ℤ a)
nat_abs_turn a b = sym (nat_abs_neg (a -ℤ b)) ∙ ap nat_abs (turn a b)

pub through : (a b c : ℤ) → (a -ℤ b) +ℤ (b -ℤ c) ≡ a -ℤ c
through a b c = sym (+ℤ_assoc (a -ℤ b) b (neg_ℤ c)) ∙ ap (λ x. x +ℤ neg_ℤ c) (-ℤ-+ℤ_cancel a b)

-- the difference of two whole numbers, by their order
pub up : (a b : ℤ) → lt_z b a ≡ false → b -ℤ a ≡ pos (nat_abs (b -ℤ a))
up (pos zero) (pos b) e = refl
up (pos (suc a)) (pos b) e = rw e
up (pos a) (negsuc b) e = clash e
up (negsuc a) (pos b) e = refl
up (negsuc a) (negsuc b) e = rw (le-ltb (suc a) (suc b) (omega (arith, ltb-false a b e)))

pub lt_z_turn : (a b : ℤ) → lt_z a b ≡ true → lt_z b a ≡ false
lt_z_turn (pos a) (pos b) e = le-ltb b a (omega (arith, ltb-true a b e))
lt_z_turn (pos a) (negsuc b) e = clash (sym e)
lt_z_turn (negsuc a) (pos b) e = refl
lt_z_turn (negsuc a) (negsuc b) e = le-ltb a b (omega (arith, ltb-true b a e))

pub down : (a b : ℤ) → lt_z b a ≡ true → b -ℤ a ≡ neg_ℤ (pos (nat_abs (b -ℤ a)))
down a b e = sym (turn a b) ∙ ap neg_ℤ (up b a (lt_z_turn b a e) ∙ ap pos (nat_abs_turn a b))

pub sided : (a b : ℤ) → b -ℤ a ≡ side (lt_z b a) (nat_abs (b -ℤ a))
sided a b = by_bool (lt_z b a) (λ e. rw e (down a b e)) (λ e. rw e (up a b e))

-- back to the number
pub from_origin : (o v : ℤ) → o +ℤ (v -ℤ o) ≡ v
from_origin o v = +ℤ_comm o (v -ℤ o) ∙ -ℤ-+ℤ_cancel v o

pub to_origin : (o x : ℤ) → (o +ℤ x) -ℤ o ≡ x
to_origin o x = ap (λ y. y -ℤ o) (+ℤ_comm o x) ∙ +ℤ-neg_ℤ_cancel x o

-- so far above a number is not below it, and so far below it is, unless it is not far at all
pub above : (o : ℤ) (m : ℕ) → lt_z (o +ℤ pos m) o ≡ false
above (pos a) m = le-ltb (a + m) a (omega arith)
above (negsuc a) m =
    by_lt m (suc a)
    (λ h. rw (lt-ltb m (suc a) h) (le-ltb a (suc a - suc m) (omega arith)))
    (λ h. rw (le-ltb m (suc a) h))

below : (o : ℤ) (m : ℕ) → lt_z (o +ℤ negsuc m) o ≡ true
below (pos a) m =
    by_lt a (suc m)
    (λ h. rw (lt-ltb a (suc m) h))
    (λ h. rw (le-ltb a (suc m) h) (lt-ltb (a - suc m) a (omega arith)))
below (negsuc a) m = lt-ltb a (suc (a + m)) (omega arith)

pub side_below : (o : ℤ) (b : Bool) (m : ℕ) → lt_z (o +ℤ side b m) o ≡ (b && ltb 0 m)
side_below o true zero = above o zero
side_below o true (suc m) = below o m ∙ sym (lt-ltb 0 (suc m) (omega arith))
side_below o false m = above o m

-- of three numbers in order, the outer two are the farthest apart
pub far_sum : (a b c : ℤ) → lt_z b a ≡ false → lt_z c b ≡ false → nat_abs (c -ℤ a) ≡ nat_abs (c -ℤ b) + nat_abs (b -ℤ a)
far_sum a b c p q = ap nat_abs (sym (through c b a) ∙ ap₂ (λ x y. x +ℤ y) (up b c q) (up a b p))

-- within 64 bits
sub_small : (a b : ℕ) → mag (sub_ℕ a (suc b)) ≤ a + b
sub_small a b =
    by_lt a (suc b)
    (λ h. rw (lt-ltb a (suc b) h) (omega arith))
    (λ h. rw (le-ltb a (suc b) h) (omega arith))

pub difference_fits : (a b : ℤ) → mag a < 2 ^ 62 → mag b < 2 ^ 62 → SFits w64 (a -ℤ b)
difference_fits (pos a) (pos zero) h k = record { sfits = omega arith }
difference_fits (pos a) (pos (suc b)) h k = record { sfits = omega (arith, sub_small a b) }
difference_fits (pos a) (negsuc b) h k = record { sfits = omega arith }
difference_fits (negsuc a) (pos zero) h k = record { sfits = omega (arith, sub_small 0 a) }
difference_fits (negsuc a) (pos (suc b)) h k = record { sfits = omega arith }
difference_fits (negsuc a) (negsuc b) h k = record { sfits = omega (arith, sub_small (suc b) a) }

pub sum_fits : (a b : ℤ) → mag a < 2 ^ 62 → mag b < 2 ^ 62 → SFits w64 (a +ℤ b)
sum_fits (pos a) (pos b) h k = record { sfits = omega arith }
sum_fits (pos a) (negsuc b) h k = record { sfits = omega (arith, sub_small a b) }
sum_fits (negsuc a) (pos b) h k = record { sfits = omega (arith, sub_small b a) }
sum_fits (negsuc a) (negsuc b) h k = record { sfits = omega arith }

pub inside_small : (low high v : ℤ) → mag low < 2 ^ 62 → mag high < 2 ^ 62 → lt_z v low ≡ false → lt_z high v ≡ false → mag v < 2 ^ 62
inside_small low (pos b) (pos n) h k p q = omega (arith, ltb-false b n q)
inside_small low (negsuc b) (pos n) h k p q = clash q
inside_small (pos a) high (negsuc n) h k p q = clash p
inside_small (negsuc a) high (negsuc n) h k p q = omega (arith, ltb-false a n p)

pub up_natural : (a b : ℤ) → lt_z b a ≡ false → lt_z (b -ℤ a) (pos 0) ≡ false
up_natural a b e = rw (up a b e) (le-ltb (nat_abs (b -ℤ a)) 0 (omega arith))
