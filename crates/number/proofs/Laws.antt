-- A value and its bytes: how the value grows, how large it is, and that each is had back from the other.
-- Assumes nothing.
use Prim.Native.Nat.{ℕ, zero, suc, ◌+◌, ◌*◌, ◌/◌, ◌%◌, ◌^◌, ◌<◌}
use native.Mathlib.Omega.{arith}
use native.Mathlib.Nat.{pow-zero, pow-suc, mod-eq_of_lt}
use mathlib.Core.Path.{◌≡◌, refl, ap, ◌∙◌}
use mathlib.Core.List.{List, [], ◌∷◌, ◌++◌}
use lib.ListN.{length, get_or, take, drop}
use lib.Seq.{get_or-drop}
use lib.Pow.{pow-add}
use lib.Dec.{ltb}
use mathlib.Core.Bool.{true}
use borrow.Author.Tests.{ltb-true}
use mir.Syntax.{w8}
use mir.Val.{Fits}
use Rattle.base.specs.Every.{all}
use Rattle.base.proofs.Every.{both_left, both_right}
use Rattle.base.proofs.Digits.{length_digits, one_digit}
use lib.Arith.{digits_lt, digits_div}
use Rattle.number.specs.Stored.{Bytes, value_from, value_of, bytes_of}

-- lists of bytes
cons_byte : (a : ℕ) (l : List ℕ) → a < 256 → Bytes l → (i : ℕ) → get_or (a ∷ l) i 0 < 256
cons_byte a l h by zero = h
cons_byte a l h by (suc i) = by.byte i

pub bytes_none : Bytes []
bytes_none = record { byte = λ i. omega arith }

-- a slice of bytes that is lent
pub bytes_lent : {l : List ℕ} → ((i : ℕ) → Fits w8 (get_or l i 0)) → Bytes l
bytes_lent h = record { byte = λ i. (h i).fits }

pub bytes_cons : {a : ℕ} {l : List ℕ} → a < 256 → Bytes l → Bytes (a ∷ l)
bytes_cons {a} {l} h by = record { byte = cons_byte a l h by }

pub bytes_tail : {a : ℕ} {l : List ℕ} → Bytes (a ∷ l) → Bytes l
bytes_tail by = record { byte = λ i. by.byte (suc i) }

pub bytes_drop : (n : ℕ) {l : List ℕ} → Bytes l → Bytes (drop n l)
bytes_drop n by = record { byte = λ i. rw get_or-drop (by.byte (n + i)) }

pub bytes_take : (n : ℕ) (l : List ℕ) → Bytes l → Bytes (take n l)
bytes_take zero l by = bytes_none
bytes_take (suc n) [] by = bytes_none
bytes_take (suc n) (a ∷ l) by = bytes_cons (by.byte 0) (bytes_take n l (bytes_tail by))

pub bytes_append : (l m : List ℕ) → Bytes l → Bytes m → Bytes (l ++ m)
bytes_append [] m x y = y
bytes_append (a ∷ l) m x y = bytes_cons (x.byte 0) (bytes_append l m (bytes_tail x) y)

-- tested
pub bytes_all : (l : List ℕ) → all (λ a. ltb a 256) l ≡ true → Bytes l
bytes_all [] e = bytes_none
bytes_all (a ∷ l) e = bytes_cons (ltb-true a 256 (both_left (ltb a 256) _ e)) (bytes_all l (both_right (ltb a 256) _ e))

pub bytes_left : (l m : List ℕ) → Bytes (l ++ m) → Bytes l
bytes_left [] m by = bytes_none
bytes_left (a ∷ l) m by = bytes_cons (by.byte 0) (bytes_left l m (bytes_tail by))

pub bytes_right : (l m : List ℕ) → Bytes (l ++ m) → Bytes m
bytes_right [] m by = by
bytes_right (a ∷ l) m by = bytes_right l m (bytes_tail by)

-- the value modulo 2 ^ 64 takes no more of the bytes before than that
pub value_wraps : (h k : ℕ) (l : List ℕ) → h % 2 ^ 64 ≡ k % 2 ^ 64 → value_from h l % 2 ^ 64 ≡ value_from k l % 2 ^ 64
unfolding value_from
value_wraps h k [] e = e
value_wraps h k (a ∷ l) e = value_wraps (h * 256 + a) (k * 256 + a) l (omega arith)

-- what n bytes add is below 256 ^ n
pub record Split (h : ℕ) (l : List ℕ) : Type 0 where
  pub rest : ℕ
  pub small : rest < 256 ^ length l
  pub whole : value_from h l ≡ h * 256 ^ length l + rest

pub value_split : (h : ℕ) (l : List ℕ) → Bytes l → Split h l
unfolding value_from
value_split h [] by = record { rest = 0; small = omega arith; whole = rw (pow-zero 256) (omega arith) }
value_split h (a ∷ l) by =
    let s : Split (h * 256 + a) l = value_split (h * 256 + a) l (bytes_tail by) in
    let p : ℕ = 256 ^ length l in
    let k : a * p + s.rest < 256 * p = digits_lt (by.byte 0) s.small in
    let e : 256 ^ suc (length l) ≡ p * 256 = pow-suc 256 (length l) in
    record { rest = a * p + s.rest; small = rw e (omega arith); whole = s.whole ∙ rw e (omega arith) }

pub value_small : (l : List ℕ) → Bytes l → value_of l < 256 ^ length l
value_small l by = let s : Split 0 l = value_split 0 l by in rw s.whole (omega (arith, s.small))

-- written
pub length_bytes_of : (n x : ℕ) → length (bytes_of n x) ≡ n
unfolding bytes_of
length_bytes_of n x = length_digits 256 (λ d. d) n x

pub bytes_bytes_of : (n x : ℕ) → Bytes (bytes_of n x)
unfolding bytes_of
bytes_bytes_of zero x = bytes_none
bytes_bytes_of (suc n) x = bytes_cons (omega arith) (bytes_bytes_of n x)

-- the bytes of the value of some bytes are those bytes
pub bytes_value : (h : ℕ) (l : List ℕ) → Bytes l → bytes_of (length l) (value_from h l) ≡ l
unfolding value_from bytes_of
bytes_value h [] by = refl
bytes_value h (a ∷ l) by =
    let g : ℕ = h * 256 + a in
    let s : Split g l = value_split g l (bytes_tail by) in
    let e : value_from g l / 256 ^ length l % 256 ≡ a =
    ap (λ x. x / 256 ^ length l % 256) s.whole ∙ (ap (λ x. x % 256) (digits_div g s.small) ∙ omega (arith, by.byte 0)) in
    ap (λ x. x ∷ bytes_of (length l) (value_from g l)) e ∙ ap (λ x. a ∷ x) (bytes_value g l (bytes_tail by))

pub spelled : (l : List ℕ) (n x : ℕ) → Bytes l → length l ≡ n → value_of l ≡ x → bytes_of n x ≡ l
spelled l n x by e f = rw (← e, ← f) (bytes_value 0 l by)

-- the value of a number's n lowest bytes is that number, modulo 256 ^ n
pub value_bytes : (h n x : ℕ) → value_from h (bytes_of n x) ≡ h * 256 ^ n + x % 256 ^ n
unfolding value_from bytes_of
value_bytes h zero x = omega arith
value_bytes h (suc n) x = value_bytes (h * 256 + x / 256 ^ n % 256) n x ∙ one_digit 256 h n x (omega arith)

pub bytes_back : (n x : ℕ) → x < 256 ^ n → value_of (bytes_of n x) ≡ x
bytes_back n x h = value_bytes 0 n x ∙ rw (mod-eq_of_lt h) (omega arith)

-- n bytes are 8 n bits
pub bits_bytes : (n : ℕ) → 2 ^ (8 * n) ≡ 256 ^ n
bits_bytes zero = refl
bits_bytes (suc n) = let e : 8 * suc n ≡ 8 * n + 8 = omega arith in rw (e, pow-add 2 (8 * n) 8, bits_bytes n, pow-suc 256 n)

-- the last byte is what remains of the value modulo 256
pub value_ends : (h a : ℕ) (l : List ℕ) → Bytes (a ∷ l) → value_from h (a ∷ l) % 256 ≡ get_or (a ∷ l) (length l) 0
unfolding value_from
value_ends h a [] by = omega (arith, by.byte 0)
value_ends h a (b ∷ l) by = value_ends (h * 256 + a) b l (bytes_tail by)
