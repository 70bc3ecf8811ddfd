-- The sum of parts put together: what counts of the place where the second one starts is whether it is even.
-- Assumes nothing.
use Rattle.std.proofs.Common.{◌≡◌, ℕ, zero, suc, ◌+◌, ◌*◌, ◌%◌, ◌<◌, List, [], ◌∷◌, ◌++◌, length, get_or, take, drop}
use Rattle.std.proofs.Common.{sym, refl, ap, ◌∙◌, add-zero, zero-add, arith}
use Rattle.std.proofs.Math.Seq.{drop-drop}
use Rattle.std.specs.Int.{w16, from_le_bytes}
use Rattle.std.specs.Simd.{first_chunks}
use Rattle.base.proofs.Parts.{cons_at}
use Rattle.checksum.specs.Sum.{weighed, checksum_of}

pub weighed_parity : (p q : ℕ) (l : List ℕ) → p % 2 ≡ q % 2 → weighed p l ≡ weighed q l
unfolding weighed
weighed_parity p q [] same = refl
weighed_parity p q (a ∷ l) same = rw (same, weighed_parity (suc p) (suc q) l (omega arith))

pub weighed_append : (place : ℕ) (l m : List ℕ) → weighed place (l ++ m) ≡ weighed place l + weighed (place + length l) m
unfolding weighed
weighed_append place [] m = rw add-zero (sym (zero-add (weighed place m)))
weighed_append place (a ∷ l) m =
    let e : suc place + length l ≡ place + suc (length l) = omega arith in
    omega (arith, weighed_append (suc place) l m, ap (λ p. weighed p m) e)

-- pair i of a list cut in pairs
pub pair_at : (d : List ℕ) (k i : ℕ) (s : List ℕ) → i < k → get_or (first_chunks 2 k s) i d ≡ take 2 (drop (2 * i) s)
pair_at d zero i s h = absurd (omega arith)
pair_at d (suc k) zero s h = refl
pair_at d (suc k) (suc i) s h =
    let e : 2 + 2 * i ≡ 2 * suc i = omega arith in
    pair_at d k i (drop 2 s) (omega arith) ∙ ap (take 2) (drop-drop (2 * i) 2 s ∙ ap (λ j. drop j s) e)

pub pair_left : (s : List ℕ) (i : ℕ) → 2 * i + 1 < length s
    → weighed 1 (drop (2 * i) s) ≡ from_le_bytes w16 (take 2 (drop (2 * i) s)) + weighed 1 (drop (2 * (i + 1)) s)
unfolding weighed
pair_left s i h =
    let e : 2 * i + 1 + 1 ≡ 2 * (i + 1) = omega arith in
    rw (cons_at s (2 * i) (omega arith), cons_at s (2 * i + 1) h, e)
    (omega (arith, weighed_parity 3 1 (drop (2 * (i + 1)) s) refl))

-- no byte, one byte, and one byte and more
pub weighed_none : (place : ℕ) (s : List ℕ) → length s < 1 → weighed place s ≡ 0
unfolding weighed
weighed_none place [] h = refl
weighed_none place (a ∷ s) h = absurd (omega arith)

pub first_odd : (s : List ℕ) → 0 < length s → length s < 2 → weighed 1 s ≡ get_or s 0 0
unfolding weighed
first_odd [] h k = absurd (omega arith)
first_odd (a ∷ s) h k = omega (arith, weighed_none 2 s (omega arith))

pub first_even : (s : List ℕ) → 0 < length s → weighed 0 s ≡ 256 * get_or s 0 0 + weighed 1 (drop 1 s)
unfolding weighed
first_even [] h = absurd (omega arith)
first_even (a ∷ s) h = refl

-- the second part starts at an even place, or at an odd one
module _ (l m : List ℕ) where
  pub checksum_even : length l % 2 ≡ 0 → checksum_of (l ++ m) ≡ (checksum_of l + checksum_of m) % 65536
  checksum_even even = omega (arith, weighed_append 0 l m, weighed_parity (0 + length l) 0 m (omega arith))

  pub checksum_odd : length l % 2 ≡ 1 → checksum_of (l ++ m) ≡ (checksum_of l + weighed 1 m) % 65536
  checksum_odd odd = omega (arith, weighed_append 0 l m, weighed_parity (0 + length l) 1 m (omega arith))

pub checksum_small : (l : List ℕ) → checksum_of l < 65536
checksum_small l = omega arith
