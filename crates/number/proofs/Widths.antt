-- The value of bytes one after another; and the lowest bytes of a number as std has them.
-- Assumes nothing.
use Prim.Native.Nat.{ℕ, zero, suc, ◌+◌, ◌*◌, ◌/◌, ◌%◌, ◌^◌, ◌<◌, ◌≤◌}
use native.Mathlib.Omega.{arith}
use native.Mathlib.Numerals.{add-one}
use native.Mathlib.Nat.{mod-mod, mod-add-div'}
use mathlib.Core.Path.{◌≡◌, refl, ap, sym, ◌∙◌}
use mathlib.Core.List.{List, [], ◌∷◌, ◌++◌}
use lib.ListN.{length, get_or, take, drop, length-drop}
use lib.Seq.{take-suc, get_or-drop}
use Rattle.std.specs.Int.{byte_at, bytes_high_first}
use Rattle.base.proofs.Parts.{cons_at, nil_at}
use Rattle.number.specs.Stored.{value_from, value_of, bytes_of}
use Rattle.number.proofs.Laws.{bytes_bytes_of, bytes_value, length_bytes_of, value_bytes}

-- n bytes from a place on
abbrev pub picked : ℕ → ℕ → List ℕ → List ℕ
picked zero at s = []
picked (suc n) at s = get_or s at 0 ∷ picked n (at + 1) s

all_picked : (n at : ℕ) (s : List ℕ) → length s ≡ at + n → drop at s ≡ picked n at s
all_picked zero at s e = nil_at s at (omega arith)
all_picked (suc n) at s e = rw (cons_at s at (omega arith), all_picked n (at + 1) s (omega arith))

pub value_picked : (n : ℕ) (s : List ℕ) → length s ≡ n → value_of s ≡ value_of (picked n 0 s)
value_picked n s e = ap value_of (all_picked n 0 s (omega arith))

-- a byte more
value_end : (h b : ℕ) (l : List ℕ) → value_from h (l ++ (b ∷ [])) ≡ value_from h l * 256 + b
unfolding value_from
value_end h b [] = refl
value_end h b (a ∷ l) = value_end (h * 256 + a) b l

pub one_taken : (at : ℕ) (s : List ℕ) → at + 1 ≤ length s → value_of (take 1 (drop at s)) ≡ get_or s at 0
unfolding value_from
one_taken at s h = rw (cons_at s at (omega arith)) (omega arith)

pub one-more : (n at : ℕ) (s : List ℕ) → at + n + 1 ≤ length s → {v r : ℕ} → v ≡ value_of (take n (drop at s)) → r ≡ v * 256 + get_or s (at + n) 0
    → r ≡ value_of (take (n + 1) (drop at s))
one-more n at s h e f =
    let k : n < length (drop at s) = rw length-drop (omega arith) in
    rw (add-one, take-suc (drop at s) n 0 k, get_or-drop, value_end) (rw (← e) f)

-- the lowest bytes
pub high_first : (n x : ℕ) → bytes_high_first n x ≡ bytes_of n x
unfolding bytes_of
high_first zero x = refl
high_first (suc zero) x = let e : x % 256 ≡ x / 256 ^ 0 % 256 = omega arith in ap (λ a. a ∷ []) e
high_first (suc (suc n)) x = ap (λ l. byte_at (suc n) x ∷ l) (high_first (suc n) x)

-- the n lowest bytes of a number are those of what it leaves
low_bytes : (n x : ℕ) → bytes_of n (x % 256 ^ n) ≡ bytes_of n x
low_bytes n x =
    let p : ℕ = 256 ^ n in
    let y : ℕ = x % p in
    let l : List ℕ = bytes_of n y in
    let e : value_from (x / p) l ≡ x = value_bytes (x / p) n y ∙ rw mod-mod (omega (arith, mod-add-div' x p)) in
    sym (rw (length_bytes_of n y, e) at (bytes_value (x / p) l (bytes_bytes_of n y)))

pub low_first : (n x : ℕ) → bytes_high_first n (x % 256 ^ n) ≡ bytes_of n x
low_first n x = high_first n (x % 256 ^ n) ∙ low_bytes n x
