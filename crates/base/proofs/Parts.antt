-- What stands at a place of a list, and what is left from there on.
-- Assumes nothing.
use Prim.Native.Nat.{ℕ, ◌+◌, ◌-◌, ◌<◌, ◌≤◌}
use native.Mathlib.Omega.{arith}
use native.Mathlib.Numerals.{add-one}
use mathlib.Core.Path.{◌≡◌}
use mathlib.Core.List.{List, [], ◌∷◌, ◌++◌, append_assoc}
use lib.ListN.{length, get_or, take, drop, set, length-drop, drop_of_length-le}
use lib.Seq.{take_all, drop-cons, take-suc, set_at, length-take-le}

module _ (l : List ℕ) (at : ℕ) where
  pub cons_at : at < length l → drop at l ≡ get_or l at 0 ∷ drop (at + 1) l
  cons_at h = rw (add-one, drop-cons l at 0)

  -- with the byte as the code has it
  pub byte_at : {b : ℕ} → b ≡ get_or l at 0 → at < length l → drop at l ≡ b ∷ drop (at + 1) l
  byte_at e h = rw e (cons_at h)

  -- a part that goes to the end, as code lends it
  pub to_the_end : take (length l - at) (drop at l) ≡ drop at l
  to_the_end = take_all (length l - at) (drop at l) (rw length-drop (omega arith))

  -- a part of it
  pub part_lent : (n : ℕ) → take (at + n - at) (drop at l) ≡ take n (drop at l)
  part_lent n = let k : at + n - at ≡ n = omega arith in rw k

  pub nil_at : length l ≤ at → drop at l ≡ []
  nil_at h = drop_of_length-le l h

-- a list filled from its end: q is there already, and b comes before it
pub set_before : (l q : List ℕ) (i b : ℕ) → i < length l → set (take (i + 1) l ++ q) i b ≡ take i l ++ (b ∷ q)
set_before l q i b h =
    let e : take (i + 1) l ≡ take i l ++ (get_or l i 0 ∷ []) = rw (add-one, take-suc l i 0) in
    rw (e, append_assoc) (set_at (take i l) (get_or l i 0) q b i (length-take-le i l (omega arith)))
