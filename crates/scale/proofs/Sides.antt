-- Whole numbers as a side and a distance: how far two are apart, and which one is nearest to a fraction.
-- Assumes nothing.
use Prim.Native.Nat.{ℕ, zero, suc, ◌+◌, ◌-◌, ◌*◌, ◌%◌, ◌<◌, ◌≤◌}
use native.Mathlib.Omega.{arith}
use native.Mathlib.Nat.{zero-mul, mul-zero, mul_comm, suc-mul}
use mathlib.Core.Path.{◌≡◌, refl, sym, ap, ◌∙◌}
use mathlib.Core.Bool.{Bool, true, false, not, ◌&&◌}
use lib.Dec.{ltb}
use lib.IntN.{ℤ, pos, negsuc, neg_ℤ, nat_abs, ◌+ℤ◌, ◌-ℤ◌, ◌*ℤ◌, neg_ℤ-neg_ℤ, +ℤ_comm}
use lib.Signed.{lt_z}
use borrow.Author.Tests.{lt-ltb, le-ltb}
use Rattle.scale.specs.Nearest.{nearest}
use Rattle.scale.specs.Scales.{side}
use Rattle.scale.proofs.Nearest.{gap, IsNearest, nearest_is, nearest_only, none_nearer, tie_up}
use Rattle.scale.proofs.Whole.{gap_is, nat_abs_turn, turn, through, from_origin, above}

pub side_times : (b : Bool) (k d : ℕ) → side b k *ℤ pos d ≡ side b (k * d)
side_times false k d = refl
side_times true zero d = rw (zero-mul d)
side_times true (suc k) d = refl

pub side_none : (b : Bool) → side b 0 ≡ pos 0
side_none true = refl
side_none false = refl

-- how far apart: on one side, and on two
pub one_side : (b : Bool) (m n : ℕ) → nat_abs (side b m -ℤ side b n) ≡ gap m n
one_side false m n = gap_is m n
one_side true m n =
    ap (λ z. nat_abs (neg_ℤ (pos m) +ℤ z)) (neg_ℤ-neg_ℤ (pos n)) ∙ (ap nat_abs (+ℤ_comm (neg_ℤ (pos m)) (pos n)) ∙ (gap_is n m ∙ (omega arith)))

pub two_sides : (b : Bool) (m n : ℕ) → nat_abs (side (not b) m -ℤ side b n) ≡ m + n
two_sides true m n = ap (λ z. nat_abs (pos m +ℤ z)) (neg_ℤ-neg_ℤ (pos n))
two_sides false zero n = gap_is 0 n ∙ (omega arith)
two_sides false (suc m) zero = ap nat_abs (+ℤ_comm (negsuc m) (pos 0)) ∙ (gap_is 0 (suc m) ∙ (omega arith))
two_sides false (suc m) (suc n) = omega arith

-- by the two sides of two numbers
pub by_sides {ℓ} : (C : Bool → Type ℓ) (b c : Bool) → C b → C (not b) → C c
by_sides C true true same other = same
by_sides C true false same other = other
by_sides C false true same other = other
by_sides C false false same other = same

-- the one whole number that is within a half of p / q on its side, where q is odd: the number k of that side, or of the other
pub near_side : (b c : Bool) (k p q : ℕ) → q % 2 ≡ 1 → 2 * nat_abs (side c (k * q) -ℤ side b p) ≤ q → side c k ≡ side b (nearest p q)
near_side b c k p q odd =
    by_sides (λ c. 2 * nat_abs (side c (k * q) -ℤ side b p) ≤ q → side c k ≡ side b (nearest p q)) b c
    (λ h. ap (side b) (sym (nearest_only p q k (close (rw (one_side b (k * q) p) at h)))))
    (λ h. far k (rw (two_sides b (k * q) p) at h))
  where
    close : 2 * gap (k * q) p ≤ q → IsNearest p q k
    close h = let e = mul_comm k q in record { over = omega arith; under = omega arith }

    far : (k : ℕ) → 2 * (k * q + p) ≤ q → side (not b) k ≡ side b (nearest p q)
    far zero h =
        side_none (not b) ∙ (sym (side_none b) ∙ ap (side b) (sym (nearest_only p q 0
        (let e = mul-zero q in let f = zero-mul q in record { over = omega arith; under = omega arith }))))
    far (suc k) h = absurd (omega (arith, suc-mul k q))

-- the nearest is within a half, and no other number of any side is nearer to p / q
pub within_half : (b : Bool) (p q : ℕ) → q % 2 ≡ 1 → 2 * nat_abs (side b (nearest p q * q) -ℤ side b p) < q
within_half b p q odd =
    let n = nearest_is p q (omega arith) in
    let e = mul_comm (nearest p q) q in
    rw (one_side b (nearest p q * q) p) (omega (arith, n.over, n.under))

across : (b : Bool) (m n : ℕ) → nat_abs (side b m -ℤ side (not b) n) ≡ m + n
across b m n = nat_abs_turn (side b m) (side (not b) n) ∙ (two_sides b n m ∙ (omega arith))

module _ (b c : Bool) (k p q : ℕ) (some : 0 < q) where
  pub side_nearest : nat_abs (side b p -ℤ side b (nearest p q * q)) ≤ nat_abs (side b p -ℤ side c (k * q))
  side_nearest =
      rw (one_side b p (nearest p q * q), mul_comm (nearest p q) q)
      (by_sides (λ c. gap p (q * nearest p q) ≤ nat_abs (side b p -ℤ side c (k * q))) b c
      (rw (one_side b p (k * q), mul_comm k q) (none_nearer p q k some))
      (rw (across b p (k * q)) (omega (arith, rw (mul-zero q) at (none_nearer p q 0 some)))))

  pub side_tie : nat_abs (side b p -ℤ side b (nearest p q * q)) ≡ nat_abs (side b p -ℤ side c (k * q)) → k ≤ nearest p q
  side_tie =
      rw (one_side b p (nearest p q * q), mul_comm (nearest p q) q)
      (by_sides (λ c. gap p (q * nearest p q) ≡ nat_abs (side b p -ℤ side c (k * q)) → k ≤ nearest p q) b c
      (rw (one_side b p (k * q), mul_comm k q) (λ h. tie_up p q k some h))
      (rw (across b p (k * q)) (λ h. none k (omega (arith, rw (mul-zero q) at (none_nearer p q 0 some))))))
    where
      none : (k : ℕ) → k * q ≤ 0 → k ≤ nearest p q
      none zero h = omega arith
      none (suc k) h = absurd (omega (arith, suc-mul k q))

-- on the other side only nothing is as near
pub other_side_tie : (b : Bool) (k p q : ℕ) → 0 < q → nat_abs (side b p -ℤ side b (nearest p q * q)) ≡ nat_abs (side b p -ℤ side (not b) (k * q)) → k ≡ 0
other_side_tie b k p q some =
    rw (one_side b p (nearest p q * q), mul_comm (nearest p q) q, across b p (k * q))
    (λ h. none k (omega (arith, rw (mul-zero q) at (none_nearer p q 0 some))))
  where
    none : (k : ℕ) → k * q ≤ 0 → k ≡ 0
    none zero h = refl
    none (suc k) h = absurd (omega (arith, suc-mul k q))

-- one side more makes no difference where there is nothing
pub side_drop : (b : Bool) (m n : ℕ) → (m ≡ 0 → n ≡ 0) → side (b && ltb 0 m) n ≡ side b n
side_drop true zero n h = rw (h refl)
side_drop true (suc m) n h = rw (lt-ltb 0 (suc m) (omega arith))
side_drop false m n h = refl

-- a difference that is a natural number
pub pos_minus : (m n : ℕ) → m ≤ n → pos n -ℤ pos m ≡ pos (n - m)
pos_minus zero n h = ap pos (omega arith)
pos_minus (suc m) n h = rw (le-ltb n (suc m) h)

pub not_less : (a b : ℤ) (k : ℕ) → b -ℤ a ≡ pos k → lt_z b a ≡ false
not_less a b k e = ap (λ x. lt_z x a) (sym (from_origin a b) ∙ ap (λ x. a +ℤ x) e) ∙ above a k

-- how far two numbers are apart does not depend on where they are counted from
pub nat_abs_from : (o a b : ℤ) → nat_abs (a -ℤ b) ≡ nat_abs ((a -ℤ o) -ℤ (b -ℤ o))
nat_abs_from o a b = ap nat_abs (sym (ap (λ z. (a -ℤ o) +ℤ z) (turn b o) ∙ through a o b))
