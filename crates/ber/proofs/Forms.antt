-- The forms of tags and lengths as single numbers, and the cases of `tag_bytes` and `length_bytes`.
-- Assumes nothing.
use Prim.Native.Nat.{ℕ, suc, ◌+◌, ◌*◌, ◌/◌, ◌%◌, ◌^◌, ◌<◌, ◌≤◌}
use native.Mathlib.Omega.{arith}
use native.Mathlib.Nat.{mod-eq_of_lt}
use mathlib.Core.Path.{◌≡◌, refl, ap, ◌∙◌}
use mathlib.Core.List.{[], ◌∷◌}
use borrow.Author.Tests.{lt-ltb, le-ltb, eq-eqb, ne_eqb}
use Rattle.number.specs.Stored.{value_from, bytes_of}
use Rattle.number.proofs.Laws.{bytes_none, bytes_cons, spelled, value_bytes, length_bytes_of, bytes_bytes_of}
use Rattle.ber.specs.Written.{tag_bytes, long, length_bytes}

module _ (t : ℕ) where
  pub tag_none : t ≡ 0 → tag_bytes t ≡ []
  unfolding tag_bytes
  tag_none h = rw (eq-eqb t 0 h)

  pub tag_one : 0 < t → t < 128 → tag_bytes t ≡ t ∷ []
  unfolding tag_bytes
  tag_one h k = rw (ne_eqb t 0 (λ e. omega arith), lt-ltb t 128 k)

  pub tag_two : 128 ≤ t → t < 16384 → tag_bytes t ≡ (128 + t / 128) ∷ (t % 128) ∷ []
  unfolding tag_bytes
  tag_two h k = rw (ne_eqb t 0 (λ e. omega arith), le-ltb t 128 h, lt-ltb t 16384 k)

  pub tag_three : 16384 ≤ t → t < 2097152 → tag_bytes t ≡ (128 + t / 16384) ∷ (128 + t / 128 % 128) ∷ (t % 128) ∷ []
  unfolding tag_bytes
  tag_three h k = rw (ne_eqb t 0 (λ e. omega arith), le-ltb t 128 (omega arith), le-ltb t 16384 h, lt-ltb t 2097152 k)

  pub tag_large : 2097152 ≤ t → tag_bytes t ≡ []
  unfolding tag_bytes
  tag_large h = rw (ne_eqb t 0 (λ e. omega arith), le-ltb t 128 (omega arith), le-ltb t 16384 (omega arith), le-ltb t 2097152 h)

module _ (x : ℕ) where
  pub length_one : x < 128 → length_bytes x ≡ x ∷ []
  unfolding length_bytes
  length_one h = rw (lt-ltb x 128 h)

  pub length_two : 128 ≤ x → x < 256 → length_bytes x ≡ long 1 x
  unfolding length_bytes
  length_two h k = rw (le-ltb x 128 h, lt-ltb x 256 k)

  pub length_three : 256 ≤ x → x < 65536 → length_bytes x ≡ long 2 x
  unfolding length_bytes
  length_three h k = rw (le-ltb x 128 (omega arith), le-ltb x 256 h, lt-ltb x 65536 k)

  pub length_four : 65536 ≤ x → x < 16777216 → length_bytes x ≡ long 3 x
  unfolding length_bytes
  length_four h k = rw (le-ltb x 128 (omega arith), le-ltb x 256 (omega arith), le-ltb x 65536 h, lt-ltb x 16777216 k)

  pub length_five : 16777216 ≤ x → x < 4294967296 → length_bytes x ≡ long 4 x
  unfolding length_bytes
  length_five h k = rw (le-ltb x 128 (omega arith), le-ltb x 256 (omega arith), le-ltb x 65536 (omega arith), le-ltb x 16777216 h, lt-ltb x 4294967296 k)

  pub length_large : 4294967296 ≤ x → length_bytes x ≡ []
  unfolding length_bytes
  length_large h =
      rw (le-ltb x 128 (omega arith), le-ltb x 256 (omega arith), le-ltb x 65536 (omega arith))
      (rw (le-ltb x 16777216 (omega arith), le-ltb x 4294967296 h))

-- a long form is one number of a byte more
pub long_code : (n x : ℕ) → n < 128 → x < 256 ^ n → bytes_of (suc n) ((128 + n) * 256 ^ n + x) ≡ long n x
unfolding value_from
long_code n x few h =
    spelled (long n x) (suc n) ((128 + n) * 256 ^ n + x) (bytes_cons (omega arith) (bytes_bytes_of n x)) (ap suc (length_bytes_of n x))
    (value_bytes (0 * 256 + (128 + n)) n x ∙ rw (mod-eq_of_lt h) (ap (λ k. k * 256 ^ n + x) (let e : 0 * 256 + (128 + n) ≡ 128 + n = omega arith in e)))

pub one_code : (a : ℕ) → a < 256 → bytes_of 1 a ≡ a ∷ []
unfolding value_from
one_code a h = spelled (a ∷ []) 1 a (bytes_cons h bytes_none) refl (omega arith)

pub two_code : (a b : ℕ) → a < 256 → b < 256 → bytes_of 2 (a * 256 + b) ≡ a ∷ b ∷ []
unfolding value_from
two_code a b h k = spelled (a ∷ b ∷ []) 2 (a * 256 + b) (bytes_cons h (bytes_cons k bytes_none)) refl (omega arith)

pub three_code : (a b c : ℕ) → a < 256 → b < 256 → c < 256 → bytes_of 3 ((a * 256 + b) * 256 + c) ≡ a ∷ b ∷ c ∷ []
unfolding value_from
three_code a b c h k m =
    spelled (a ∷ b ∷ c ∷ []) 3 ((a * 256 + b) * 256 + c) (bytes_cons h (bytes_cons k (bytes_cons m bytes_none))) refl (omega arith)
