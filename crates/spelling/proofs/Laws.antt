-- Numbers and bytes as text: the number is read back from its digits, no digit is spare, and how long the text is.
-- Assumes nothing.
use Prim.Native.Nat.{ℕ, zero, suc, ◌+◌, ◌*◌, ◌-◌, ◌/◌, ◌%◌, ◌^◌, ◌<◌, ◌≤◌}
use native.Mathlib.Omega.{arith}
use native.Mathlib.Nat.{pow-suc, pow-succ', one-le-pow, mod-eq_of_lt, le-div_iff_mul-le, div-lt_iff_lt-mul}
use mathlib.Core.Path.{◌≡◌, refl, ap, ◌∙◌}
use mathlib.Core.List.{List, [], ◌∷◌}
use lib.IntN.{ℤ, pos, negsuc, nat_abs}
use lib.ListN.{length, get_or}
use Rattle.base.proofs.Cases.{by_lt}
use Rattle.base.proofs.Digits.{one_digit}
use Rattle.spelling.specs.Spelling.{digits, count_from, decimal, whole, hex}
use Rattle.spelling.proofs.Digits.{count_one, count_more, decimal_length}

-- what a text of digits says, where the digits before say h
unfoldable pub read_from : ℕ → List ℕ → ℕ
read_from h [] = h
read_from h (a ∷ l) = read_from (h * 10 + (a - 48)) l

-- the k lowest digits say the number, modulo 10 ^ k
read_digits : (h k n : ℕ) → read_from h (digits k n) ≡ h * 10 ^ k + n % 10 ^ k
unfolding read_from digits
read_digits h zero n = omega arith
read_digits h (suc k) n =
    let d : ℕ = n / 10 ^ k % 10 in
    let g : 48 + d - 48 ≡ d = omega arith in
    ap (λ x. read_from (h * 10 + x) (digits k n)) g ∙ (read_digits (h * 10 + d) k n ∙ one_digit 10 h k n (omega arith))

-- enough digits are counted
count_enough : (m n : ℕ) → n < 10 ^ suc m → n < 10 ^ count_from m n
unfolding count_from
count_enough zero n h = h
count_enough (suc m) n h =
    by_lt n 10
    (λ small. rw (count_one (suc m) n small) (omega arith))
    (λ large.
    let b : n / 10 < 10 ^ suc m = omega (arith, rw (pow-suc 10 (suc m)) at h) in
    rw (count_more m n large, pow-suc 10 (count_from m (n / 10))) (omega (arith, count_enough m (n / 10) b)))

pub decimal_value : (n : ℕ) → n < 10 ^ 20 → read_from 0 (decimal n) ≡ n
unfolding decimal
decimal_value n h = read_digits 0 (count_from 19 n) n ∙ rw (mod-eq_of_lt (count_enough 19 n h)) (omega arith)

-- and none too many
count_least : (m n k : ℕ) → 0 < n → count_from m n ≡ suc k → 10 ^ k ≤ n
unfolding count_from
count_least m n zero h e = omega arith
count_least zero n (suc k) h e = absurd (omega arith)
count_least (suc m) n (suc k) h e =
    by_lt n 10
    (λ small. absurd (omega (arith, count_one (suc m) n small)))
    (λ large. rw (pow-suc 10 k) (omega (arith, count_least m (n / 10) k (omega arith) (omega (arith, count_more m n large)))))

first_digit : (c n : ℕ) → 0 < n → n < 10 ^ c → ((k : ℕ) → c ≡ suc k → 10 ^ k ≤ n) → 48 < get_or (digits c n) 0 0
unfolding digits
first_digit zero n some high low = absurd (omega arith)
first_digit (suc k) n some high low =
    let p : 0 < 10 ^ k = one-le-pow k 10 (omega arith) in
    let l : 1 ≤ n / 10 ^ k = (le-div_iff_mul-le p).1 (omega (arith, low k refl)) in
    let u : n / 10 ^ k < 10 = (div-lt_iff_lt-mul p).1 (rw (pow-succ' 10 k) at high) in
    omega arith

-- the first digit is 0 only where the number is
pub decimal_first : (n : ℕ) → 0 < n → n < 10 ^ 20 → 48 < get_or (decimal n) 0 0
unfolding decimal
decimal_first n some h = first_digit (count_from 19 n) n some (count_enough 19 n h) (λ k e. count_least 19 n k some e)

count_short : (m n k : ℕ) → n < 10 ^ suc k → count_from m n ≤ suc k
unfolding count_from
count_short zero n k h = omega arith
count_short (suc m) n zero h = omega (arith, count_one (suc m) n h)
count_short (suc m) n (suc k) h =
    by_lt n 10
    (λ small. rw (count_one (suc m) n small) (omega arith))
    (λ large.
    let b : n / 10 < 10 ^ suc k = omega (arith, rw (pow-suc 10 (suc k)) at h) in
    rw (count_more m n large) (omega (arith, count_short m (n / 10) k b)))

pub decimal_short : (n k : ℕ) → 0 < k → n < 10 ^ k → length (decimal n) ≤ k
decimal_short n zero some h = absurd (omega arith)
decimal_short n (suc k) some h = rw (decimal_length n) (count_short 19 n k h)

-- one character more for the sign
pub whole_short : (v : ℤ) (k : ℕ) → 0 < k → nat_abs v < 10 ^ k → length (whole v) ≤ k + 1
unfolding whole
whole_short (pos n) k some h = omega (arith, decimal_short n k some h)
whole_short (negsuc n) k some h = omega (arith, decimal_short (suc n) k some h)

pub hex_length : (l : List ℕ) → length (hex l) ≡ 2 * length l
unfolding hex
hex_length [] = refl
hex_length (b ∷ l) = omega (arith, hex_length l)
