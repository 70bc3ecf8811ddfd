-- A number's digits, and that they are put from the end of a list: from place i on stand the lowest, and `left` is what is left of the number.
-- Assumes nothing.
use Prim.Native.Nat.{ℕ, zero, suc, ◌+◌, ◌*◌, ◌-◌, ◌/◌, ◌%◌, ◌^◌, ◌<◌, ◌≤◌}
use native.Mathlib.Omega.{arith}
use native.Mathlib.Nat.{pow-suc, pow-succ', one-le-pow, add_assoc, add-mul, mul_assoc, div-div-eq-div-mul}
use mathlib.Core.Path.{◌≡◌, refl, ap, ◌∙◌}
use mathlib.Core.List.{List, ◌++◌}
use lib.ListN.{length, take, set, length-set}
use lib.Arith.{mod-mul}
use Rattle.base.specs.Digits.{digits_in}
use Rattle.base.proofs.Parts.{set_before}

pub length_digits : (base : ℕ) (shown : ℕ → ℕ) (k x : ℕ) → length (digits_in base shown k x) ≡ k
length_digits base shown zero x = refl
length_digits base shown (suc k) x = ap suc (length_digits base shown k x)

-- the digits before say h: what they say with one digit more, and the digits after it
pub one_digit : (base h k x : ℕ) → 1 ≤ base → (h * base + x / base ^ k % base) * base ^ k + x % base ^ k ≡ h * base ^ suc k + x % base ^ suc k
one_digit base h k x some =
    let p : ℕ = base ^ k in
    let d : ℕ = x / p % base in
    let e : x % (base * p) ≡ d * p + x % p = mod-mul x some (one-le-pow k base some) in
    let f : (h * base + d) * p ≡ h * (base * p) + d * p = add-mul (h * base) d p ∙ ap (λ y. y + d * p) (mul_assoc h base p) in
    rw (pow-succ' base k, f, e) (add_assoc (h * (base * p)) (d * p) (x % p))

pub record Filling (base : ℕ) (shown : ℕ → ℕ) (o : List ℕ) (x : ℕ) (out : List ℕ) (left i : ℕ) : Type 0 where
  pub few : i ≤ length o
  pub rest : left ≡ x / base ^ (length o - i)
  pub filled : out ≡ take i o ++ digits_in base shown (length o - i) x
  pub kept : length out ≡ length o

module _ {base : ℕ} {shown : ℕ → ℕ} {o : List ℕ} {x : ℕ} where
  module _ {out : List ℕ} {left i : ℕ} (f : Filling base shown o x out left i) where
    pub fill_next : 0 < i → Filling base shown o x (set out (i - 1) (shown (left % base))) (left / base) (i - 1)
    fill_next h =
        let j : ℕ = i - 1 in
        let k : ℕ = length o - i in
        let ei : i ≡ j + 1 = omega arith in
        let ek : length o - j ≡ suc k = omega arith in
        let e : out ≡ take (j + 1) o ++ digits_in base shown k x = f.filled ∙ ap (λ n. take n o ++ digits_in base shown k x) ei in
        record {
          few = omega arith;
          rest = rw (ek, f.rest, pow-suc) (div-div-eq-div-mul x (base ^ k) base);
          filled = rw (e, set_before o (digits_in base shown k x) j (shown (left % base)) (omega arith), ek, f.rest);
          kept = length-set out j (shown (left % base)) ∙ f.kept;
        }

    pub fill_done : i ≤ 0 → out ≡ digits_in base shown (length o) x
    fill_done h =
        let ei : i ≡ 0 = omega arith in
        let ek : length o - 0 ≡ length o = omega arith in
        f.filled ∙ rw (ei, ek)
