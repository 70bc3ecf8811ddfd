-- The nearest whole number to p / q, cross-multiplied: it is within a half, it alone is, an odd q has no tie, and what rounding there and back gives.
-- Assumes nothing.
use Prim.Native.Nat.{ℕ, suc, ◌+◌, ◌-◌, ◌*◌, ◌/◌, ◌%◌, ◌<◌, ◌≤◌}
use native.Mathlib.Omega.{arith}
use native.Mathlib.Nat.{mul_comm, mul_assoc, mul_left_comm, mul-add, add-mul, mul-suc, mul-zero, mul-le-mul_left, mul-le-mul_right}
use native.Mathlib.Nat.{mod-lt, div-add-mod, div-eq_of_lt-le, mul-div-mul_left}
use mathlib.Core.Path.{◌≡◌, sym, ap, ◌∙◌}
use Rattle.base.proofs.Cases.{by_lt}
use Rattle.scale.specs.Nearest.{nearest}

-- k - 1/2 ≤ p / q < k + 1/2
pub record IsNearest (p q k : ℕ) : Type 0 where
  pub over : 2 * (q * k) ≤ 2 * p + q
  pub under : 2 * p < 2 * (q * k) + q

pub nearest_is : (p q : ℕ) → 0 < q → IsNearest p q (nearest p q)
unfolding nearest
nearest_is p q some =
    let x : ℕ = 2 * p + q in
    let e = div-add-mod x (2 * q) in
    let m : x % (2 * q) < 2 * q = mod-lt x (omega arith) in
    let d = mul_assoc 2 q (x / (2 * q)) in
    record { over = omega arith; under = omega arith }

pub nearest_only : (p q k : ℕ) → IsNearest p q k → nearest p q ≡ k
unfolding nearest
nearest_only p q k n =
    let e : k * (2 * q) ≡ 2 * (q * k) = mul_comm k (2 * q) ∙ mul_assoc 2 q k in
    let f = add-mul k 1 (2 * q) in
    div-eq_of_lt-le (2 * q) (omega (arith, n.over)) (omega (arith, n.under))

-- cutting, with half of q added before
pub cut_with_half : (p q : ℕ) → 0 < q → (p + q / 2) / q ≡ nearest p q
cut_with_half p q some =
    let x : ℕ = p + q / 2 in
    let e = div-add-mod x q in
    let m : x % q < q = mod-lt x some in
    sym (nearest_only p q (x / q) (record { over = omega arith; under = omega arith }))

-- a common factor changes nothing
pub nearest_cancel : (k p q : ℕ) → 0 < k → nearest (k * p) (k * q) ≡ nearest p q
unfolding nearest
nearest_cancel k p q some =
    rw (mul_left_comm 2 k p, ← mul-add k (2 * p) q, mul_left_comm 2 k q) (mul-div-mul_left (2 * p + q) (2 * q) some)

pub nearest_whole : (k q : ℕ) → 0 < q → nearest (q * k) q ≡ k
nearest_whole k q some = nearest_only (q * k) q k (record { over = omega arith; under = omega arith })

pub nearest_none : (q : ℕ) → 0 < q → nearest 0 q ≡ 0
nearest_none q some = ap (λ p. nearest p q) (sym (mul-zero q)) ∙ nearest_whole 0 q some

-- one code more is q more
next : (q k l : ℕ) → k < l → q * k + q ≤ q * l
next q k l h = let e = mul-le-mul_left q (let g : suc k ≤ l = h in g) in omega (arith, e, mul-suc q k)

pub nearest_grows : (p r q : ℕ) → 0 < q → p ≤ r → nearest p q ≤ nearest r q
nearest_grows p r q some h =
    by_lt (nearest r q) (nearest p q)
    (λ less. absurd (omega (arith, nearest_is p q some, nearest_is r q some, next q _ _ less)))
    (λ more. more)

-- of the whole no more than the whole
pub nearest_top : (far q k : ℕ) → 0 < q → far ≤ q → nearest (far * k) q ≤ k
nearest_top far q k some h = omega (arith, nearest_grows (far * k) (q * k) q some (mul-le-mul_right k h), nearest_whole k q some)

-- no tie occurs where q is odd: both inequalities are strict
pub no_tie : (p q k : ℕ) → q % 2 ≡ 1 → 2 * (q * k) ≡ 2 * p + q → ⊥
no_tie p q k odd e = omega arith

-- how far two numbers are apart
abbrev pub gap : ℕ → ℕ → ℕ
gap a b = a - b + (b - a)

-- no other whole number is nearer to p / q, and at equal distance the nearest is the larger one
pub none_nearer : (p q k : ℕ) → 0 < q → gap p (q * nearest p q) ≤ gap p (q * k)
none_nearer p q k some =
    let n = nearest_is p q some in
    by_lt k (nearest p q)
    (λ less. omega (arith, n.over, n.under, next q k _ less))
    (λ more. by_lt (nearest p q) k
    (λ less. omega (arith, n.over, n.under, next q _ k less))
    (λ same. let e : nearest p q ≡ k = omega arith in rw e (omega arith)))

pub tie_up : (p q k : ℕ) → 0 < q → gap p (q * nearest p q) ≡ gap p (q * k) → k ≤ nearest p q
tie_up p q k some e =
    let n = nearest_is p q some in
    by_lt (nearest p q) k
    (λ less. absurd (omega (arith, n.over, n.under, next q _ k less)))
    (λ more. more)

-- from a coarse scale to a finer one and back
pub nearest_back : (x a b : ℕ) → 0 < a → a < b → nearest (nearest (x * b) a * a) b ≡ x
nearest_back x a b some finer =
    let y : ℕ = nearest (x * b) a in
    let n = nearest_is (x * b) a some in
    let e = mul_comm x b in
    let f = mul_comm y a in
    nearest_only (y * a) b x (record { over = omega (arith, n.under); under = omega (arith, n.over) })

-- on any scales, there and back is within half a step and half a unit
pub record Within (x y d r : ℕ) : Type 0 where
  pub over : 2 * (d * y) ≤ 2 * (d * x) + (r + d)
  pub under : 2 * (d * x) ≤ 2 * (d * y) + (r + d)

pub there_and_back : (x d r : ℕ) → 0 < d → 0 < r → Within x (nearest (nearest (x * d) r * r) d) d r
there_and_back x d r some-d some-r =
    let m : ℕ = nearest (x * d) r in
    let n = nearest_is (x * d) r some-r in
    let k = nearest_is (m * r) d some-d in
    let e = mul_comm x d in
    let f = mul_comm m r in
    record { over = omega (arith, n.over, k.over); under = omega (arith, n.under, k.under) }
