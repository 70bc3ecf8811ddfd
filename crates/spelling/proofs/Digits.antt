-- A number's digits: how many they are, and their parts.
-- Assumes nothing.
use Prim.Native.Nat.{ℕ, zero, suc, ◌+◌, ◌*◌, ◌/◌, ◌%◌, ◌^◌, ◌<◌, ◌≤◌}
use native.Mathlib.Omega.{arith}
use native.Mathlib.Nat.{pow-zero, pow-suc, pow-succ', one-le-pow, mul_assoc, add_comm, add-zero, zero-add, suc-add}
use native.Mathlib.Nat.{div-one, mod-add-div, div-div-eq-div-mul, add-mul-div_left, add-mul-mod_self_left, div-lt_iff_lt-mul}
use mathlib.Core.Path.{◌≡◌, refl, ap, sym, ◌∙◌}
use mathlib.Core.List.{◌∷◌, ◌++◌}
use lib.Pow.{pow-add}
use Rattle.std.specs.Prelude.{max}
use lib.ListN.{length}
use borrow.Author.Tests.{lt-ltb, le-ltb}
use Rattle.base.proofs.Cases.{by_lt}
use Rattle.base.proofs.Digits.{length_digits as digits_long}
use Rattle.spelling.specs.Spelling.{digits, count_from, decimal}

-- how many digits
pub count_one : (m n : ℕ) → n < 10 → count_from m n ≡ 1
unfolding count_from
count_one zero n h = refl
count_one (suc m) n h = rw (lt-ltb n 10 h)

pub count_more : (m n : ℕ) → 10 ≤ n → count_from (suc m) n ≡ suc (count_from m (n / 10))
unfolding count_from
count_more m n h = rw (le-ltb n 10 h)

count_few : (m n : ℕ) → count_from m n ≤ suc m
unfolding count_from
count_few zero n = omega arith
count_few (suc m) n =
    by_lt n 10
    (λ h. rw (count_one (suc m) n h) (omega arith))
    (λ h. rw (count_more m n h) (omega (arith, count_few m (n / 10))))

pub length_digits : (k n : ℕ) → length (digits k n) ≡ k
unfolding digits
length_digits k n = digits_long 10 (λ d. 48 + d) k n

pub decimal_length : (n : ℕ) → length (decimal n) ≡ count_from 19 n
unfolding decimal
decimal_length n = length_digits (count_from 19 n) n

pub decimal_few : (n : ℕ) → length (decimal n) ≤ 20
decimal_few n = rw (decimal_length n) (count_few 19 n)

-- the lowest digits are those of what the number leaves
digits_low : (k l q : ℕ) → digits k (l + 10 ^ k * q) ≡ digits k l
unfolding digits
digits_low zero l q = refl
digits_low (suc k) l q =
    let p : 10 ^ suc k * q ≡ 10 ^ k * (10 * q) = rw (pow-suc 10 k) (mul_assoc (10 ^ k) 10 q) in
    let head : (l + 10 ^ k * (10 * q)) / 10 ^ k % 10 ≡ l / 10 ^ k % 10 =
    ap (λ x. x % 10) (add-mul-div_left l (10 * q) (one-le-pow k 10 (omega arith))) ∙ add-mul-mod_self_left (l / 10 ^ k) 10 q in
    rw (p, head) (ap (λ x. (48 + l / 10 ^ k % 10) ∷ x) (digits_low k l (10 * q)))

-- so many digits, and the lowest after them
digits_split : (j k n : ℕ) → digits j (n / 10 ^ k) ++ digits k (n % 10 ^ k) ≡ digits (j + k) n
unfolding digits
digits_split zero k n =
    let e : n % 10 ^ k + 10 ^ k * (n / 10 ^ k) ≡ n = mod-add-div n (10 ^ k) in
    sym (digits_low k (n % 10 ^ k) (n / 10 ^ k)) ∙ (ap (digits k) e ∙ ap (λ i. digits i n) (sym (zero-add k)))
digits_split (suc j) k n =
    let p : 10 ^ k * 10 ^ j ≡ 10 ^ (j + k) = sym (pow-add 10 k j) ∙ ap (λ i. 10 ^ i) (add_comm k j) in
    let e : n / 10 ^ k / 10 ^ j ≡ n / 10 ^ (j + k) = div-div-eq-div-mul n (10 ^ k) (10 ^ j) ∙ ap (λ x. n / x) p in
    rw (suc-add j k, e) (ap (λ x. (48 + n / 10 ^ (j + k) % 10) ∷ x) (digits_split j k n))

-- more may be left than there are
count_same : (m n : ℕ) → n < 10 ^ suc m → count_from (suc m) n ≡ count_from m n
count_same zero n h = count_one 1 n h ∙ sym (count_one 0 n h)
count_same (suc m) n h =
    by_lt n 10
    (λ small. count_one (suc (suc m)) n small ∙ sym (count_one (suc m) n small))
    (λ large.
    let b : n / 10 < 10 ^ suc m = omega (arith, rw (pow-suc 10 (suc m)) at h) in
    count_more (suc m) n large ∙ (ap suc (count_same m (n / 10) b) ∙ sym (count_more m n large)))

count_split : (k n : ℕ) → 10 ^ k ≤ n → n < 10 ^ 20 → count_from 19 n ≡ count_from 19 (n / 10 ^ k) + k
count_split zero n h b = rw (pow-zero, div-one, add-zero)
count_split (suc k) n h b =
    let some : 1 ≤ 10 ^ k = one-le-pow k 10 (omega arith) in
    let l : 10 ^ k * 10 ≤ n = rw (pow-suc 10 k) at h in
    let e : n / 10 / 10 ^ k ≡ n / 10 ^ suc k = div-div-eq-div-mul n 10 (10 ^ k) ∙ ap (λ x. n / x) (sym (pow-succ' 10 k)) in
    let rest = count_split k (n / 10) (omega arith) (omega arith) in
    count_more 18 n (omega arith) ∙ (ap suc (sym (count_same 18 (n / 10) (omega arith)) ∙ rest) ∙ rw e (omega arith))

-- a number is what stands before its lowest digits, and they
decimal_split : (k n : ℕ) → 10 ^ k ≤ n → n < 10 ^ 20 → decimal (n / 10 ^ k) ++ digits k (n % 10 ^ k) ≡ decimal n
unfolding decimal
decimal_split k n h b = digits_split (count_from 19 (n / 10 ^ k)) k n ∙ ap (λ i. digits i n) (sym (count_split k n h b))

pub decimal_one : (n : ℕ) → n < 10 → digits 1 n ≡ decimal n
unfolding decimal
decimal_one n h = rw (count_one 19 n h)

-- of which the first is the only one
decimal_exact : (k n : ℕ) → 10 ^ k ≤ n → n / 10 ^ k < 10 → n < 10 ^ 20 → digits (1 + k) n ≡ decimal n
decimal_exact k n h few b =
    sym (digits_split 1 k n) ∙ (ap (λ l. l ++ digits k (n % 10 ^ k)) (decimal_one (n / 10 ^ k) few) ∙ decimal_split k n h b)

pub decimal_two : (n : ℕ) → 10 ≤ n → n < 100 → digits 2 n ≡ decimal n
decimal_two n h k = decimal_exact 1 n h (omega arith) (omega arith)

pub decimal_three : (n : ℕ) → 100 ≤ n → n < 1000 → digits 3 n ≡ decimal n
decimal_three n h k = decimal_exact 2 n h (omega arith) (omega arith)

pub decimal_four : (n : ℕ) → 1000 ≤ n → n < 10000 → digits 4 n ≡ decimal n
decimal_four n h k = decimal_exact 3 n h (omega arith) (omega arith)

-- the same by a given power of ten
pub decimal_parts : (k n p : ℕ) → p ≡ 10 ^ k → p ≤ n → n < 2 ^ 64 → decimal (n / p) ++ digits k (n % p) ≡ decimal n
decimal_parts k n p e low h = rw e (decimal_split k n (rw e at low) (omega arith))

pub few_left : (n p : ℕ) → n < 10000 * p → n / p < 10000
few_left n p h = let some : 0 < p = omega arith in (div-lt_iff_lt-mul some).1 h

-- as code counts them: by the highest power of ten that is no greater
pub sized : (n m k : ℕ) → n < 2 ^ 64 → m ≡ max n 1 → 10 ^ k ≤ m → m < 10 * 10 ^ k → k + 1 ≡ length (decimal n)
sized n m k h e low high =
    let same : count_from 19 n ≡ count_from 19 m =
    by_lt n 10 (λ small. count_one 19 n small ∙ sym (count_one 19 m (omega arith))) (λ large. ap (count_from 19) (omega arith)) in
    let some : 1 ≤ 10 ^ k = one-le-pow k 10 (omega arith) in
    let few : m / 10 ^ k < 10 = (div-lt_iff_lt-mul some).1 high in
    omega (arith, decimal_length n, same, count_split k m low (omega arith), count_one 19 (m / 10 ^ k) few)
