-- Bits of words: which bit of the pair is which bit of a word, and what a mask says of all bits.
-- Assumes nothing.
use Prim.Native.Nat.{ℕ, zero, suc, ◌+◌, ◌-◌, ◌*◌, ◌/◌, ◌%◌, ◌^◌, ◌<◌, ◌≤◌, min}
use native.Mathlib.Omega.{arith}
use native.Mathlib.Nat.{le_trans, div-eq_of_lt, pow-suc, one-mul, mul-div_cancel, mul-mod_left, div_self}
use mathlib.Core.Path.{◌≡◌, refl, ap, sym, ◌∙◌}
use lib.Pow.{pow-add, pow-lt, pow_pos, shl_exact, pow_mono, shr-shr, field, mod-mod-pow, high, low}
use lib.Bits.{bit_or, or_shr, or_mod, or_zero_r, bit_and, and_mask, and_step, and_shr, and_mod, and_zero_l}
use Rattle.base.proofs.Cases.{by_eq, by_lt}

pub and_one : (x : ℕ) → bit_and x 1 ≡ x % 2
and_one x = and_mask x 1

-- of the pair h, l
module _ (h l : ℕ) (l64 : l < 2 ^ 64) where
  pub low_bit : (t : ℕ) → t < 64 → (h * 2 ^ 64 + l) / 2 ^ t % 2 ≡ l / 2 ^ t % 2
  low_bit t k =
      let n : ℕ = h * 2 ^ 64 + l in
      let e : 63 - t + (1 + t) ≡ 64 = omega arith in
      let m : n % 2 ^ 64 % 2 ^ (1 + t) ≡ n % 2 ^ (1 + t) = ap (λ j. n % 2 ^ j % 2 ^ (1 + t)) (sym e) ∙ mod-mod-pow n (63 - t) (1 + t) in
      sym (field n 1 t) ∙ ap (λ x. x / 2 ^ t) (sym m ∙ ap (λ x. x % 2 ^ (1 + t)) (low h 64 l64)) ∙ field l 1 t

  pub high_bit : (t : ℕ) → 64 ≤ t → (h * 2 ^ 64 + l) / 2 ^ t ≡ h / 2 ^ (t - 64)
  high_bit t k =
      let n : ℕ = h * 2 ^ 64 + l in
      let e : 64 + (t - 64) ≡ t = omega arith in
      ap (λ j. n / 2 ^ j) (sym e) ∙ sym (shr-shr n 64 (t - 64)) ∙ ap (λ x. x / 2 ^ (t - 64)) (high h 64 l64)

  pub no_bit : (t : ℕ) → 128 ≤ t → h < 2 ^ 64 → (h * 2 ^ 64 + l) / 2 ^ t ≡ 0
  no_bit t k h64 = high_bit t (omega arith) ∙ div-eq_of_lt (le_trans h64 (pow_mono {i = 64} {j = t - 64} (omega arith)))

-- bit k of a word
abbrev pub bit : ℕ → ℕ → ℕ
bit w k = w / 2 ^ k % 2

pub bit_small : (w k : ℕ) → bit w k < 2
bit_small w k = omega arith

both_bits : (x y : ℕ) → x < 2 → y < 2 → bit_and x y ≡ x → x ≡ 1 → y ≡ 1
both_bits x zero h k e f = absurd (omega (arith, ap (λ z. bit_and z 0) f))
both_bits x (suc zero) h k e f = refl
both_bits x (suc (suc y)) h k e f = absurd (omega arith)

-- a word that a mask leaves as it is has no bit that the mask lacks
pub masked_bits : (a b : ℕ) → bit_and a b ≡ a → (k : ℕ) → bit a k ≡ 1 → bit b k ≡ 1
masked_bits a b e k f =
    let g : bit_and (bit a k) (bit b k) ≡ bit a k =
    sym (and_mod (a / 2 ^ k) (b / 2 ^ k) 1) ∙ (ap (λ x. x % 2) (sym (and_shr a b k)) ∙ ap (λ x. bit x k) e) in
    both_bits (bit a k) (bit b k) (bit_small a k) (bit_small b k) g f

min_bits : (x y : ℕ) → x < 2 → y < 2 → (x ≡ 1 → y ≡ 1) → min x y ≡ x
min_bits x y h k f = by_eq x 1 (λ e. omega (arith, f e)) (λ n. omega arith)

half_bit : (a k : ℕ) → bit (a / 2) k ≡ bit a (1 + k)
half_bit a k = ap (λ x. x % 2) (shr-shr a 1 k)

pub bits_masked : (n a b : ℕ) → a < 2 ^ n → ((k : ℕ) → k < n → bit a k ≡ 1 → bit b k ≡ 1) → bit_and a b ≡ a
bits_masked zero a b h f = let e : a ≡ 0 = omega arith in rw e (and_zero_l b)
bits_masked (suc n) a b h f =
    let p : 2 ^ suc n ≡ 2 ^ n * 2 = pow-suc 2 n in
    let half : bit_and (a / 2) (b / 2) ≡ a / 2 =
    bits_masked n (a / 2) (b / 2) (omega arith) (λ k l g. half_bit b k ∙ f (1 + k) (omega arith) (sym (half_bit a k) ∙ g)) in
    let last : min (a % 2) (b % 2) ≡ a % 2 = min_bits (a % 2) (b % 2) (omega arith) (omega arith) (λ g. omega (arith, f 0 (omega arith) (omega arith))) in
    and_step a b ∙ omega arith

pub one_shl : (k : ℕ) → k < 64 → 1 * 2 ^ k % 2 ^ 64 ≡ 2 ^ k
one_shl k h = shl_exact {a = 1} 1 k 64 (omega arith) (omega arith) ∙ one-mul (2 ^ k)

-- a bit set, and the others as they were
pow_bit : (k j : ℕ) → (j ≡ k → ⊥) → bit (2 ^ k) j ≡ 0
pow_bit k j other =
    by_lt j k
    (λ h.
    let e : k ≡ suc (k - (j + 1)) + j = omega arith in
    ap (λ n. 2 ^ n / 2 ^ j % 2) e
    ∙ ap (λ n. n / 2 ^ j % 2) (pow-add 2 (suc (k - (j + 1))) j)
    ∙ ap (λ n. n % 2) (mul-div_cancel (2 ^ suc (k - (j + 1))) (pow_pos j))
    ∙ ap (λ n. n % 2) (pow-suc 2 (k - (j + 1)))
    ∙ mul-mod_left (2 ^ (k - (j + 1))) 2)
    (λ h. ap (λ n. n % 2) (div-eq_of_lt (pow-lt (omega arith))))

or_bit : (w v j : ℕ) → bit (bit_or w v) j ≡ bit_or (bit w j) (bit v j)
or_bit w v j = ap (λ n. n % 2) (or_shr w v j) ∙ or_mod (w / 2 ^ j) (v / 2 ^ j) 1

or_one : (x : ℕ) → x < 2 → bit_or x 1 ≡ 1
or_one zero h = refl
or_one (suc zero) h = refl
or_one (suc (suc x)) h = absurd (omega arith)

pub set-bit : (w k : ℕ) → bit (bit_or w (2 ^ k)) k ≡ 1
set-bit w k =
    or_bit w (2 ^ k) k ∙ (ap (λ n. bit_or (bit w k) (n % 2)) (div_self (pow_pos k)) ∙ or_one (bit w k) (bit_small w k))

pub other_bit : (w k j : ℕ) → (j ≡ k → ⊥) → bit (bit_or w (2 ^ k)) j ≡ bit w j
other_bit w k j other = or_bit w (2 ^ k) j ∙ (ap (bit_or (bit w j)) (pow_bit k j other) ∙ or_zero_r (bit w j))

pub and_bit : (w v j : ℕ) → bit (bit_and w v) j ≡ bit_and (bit w j) (bit v j)
and_bit w v j = ap (λ n. n % 2) (and_shr w v j) ∙ and_mod (w / 2 ^ j) (v / 2 ^ j) 1
