-- What a test that passes over a whole list says of each of its places, and of each number below a bound.
-- Assumes nothing.
use Prim.Native.Nat.{ℕ, zero, suc, ◌<◌}
use mathlib.Core.Path.{◌≡◌, refl}
use mathlib.Core.Bool.{Bool, true, false, ◌&&◌}
use mathlib.Core.List.{List, [], ◌∷◌}
use native.Mathlib.Omega.{arith}
use lib.ListN.{length, get_or}
use Rattle.base.specs.Every.{all, all_below}
use Rattle.base.proofs.Cases.{by_eq}

pub both_left : (a b : Bool) → a && b ≡ true → a ≡ true
both_left true b e = refl
both_left false b e = e

pub both_right : (a b : Bool) → a && b ≡ true → b ≡ true
both_right true b e = e
both_right false b e = let z : ◌≡◌ {A = ℕ} 0 1 = cc in absurd (omega arith)

pub both_true : (a b : Bool) → a ≡ true → b ≡ true → a && b ≡ true
both_true true b e f = f
both_true false b e f = e

pub all_at {ℓ} : {A : Type ℓ} (f : A → Bool) (xs : List A) (d : A) → all f xs ≡ true → (k : ℕ) → k < length xs → f (get_or xs k d) ≡ true
all_at f [] d e k h = absurd (omega arith)
all_at f (x ∷ xs) d e zero h = both_left (f x) (all f xs) e
all_at f (x ∷ xs) d e (suc k) h = all_at f xs d (both_right (f x) (all f xs) e) k (omega arith)

pub all-below : (f : ℕ → Bool) (n : ℕ) → all_below f n ≡ true → (k : ℕ) → k < n → f k ≡ true
all-below f zero e k h = absurd (omega arith)
all-below f (suc n) e k h =
    by_eq k n
    (λ same. rw same (both_left (f n) (all_below f n) e))
    (λ other. all-below f n (both_right (f n) (all_below f n) e) k (omega arith))

pub below_all : (f : ℕ → Bool) (n : ℕ) → ((k : ℕ) → k < n → f k ≡ true) → all_below f n ≡ true
below_all f zero h = refl
below_all f (suc n) h = rw (h n (omega arith)) (below_all f n (λ k l. h k (omega arith)))
