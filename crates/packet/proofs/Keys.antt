-- The key, compared as two numbers of eight bytes.
-- Assumes nothing.
use Prim.Native.Nat.{ℕ, ◌+◌, ◌%◌, ◌^◌, ◌<◌, ◌≤◌}
use native.Mathlib.Omega.{arith}
use mathlib.Core.Path.{◌≡◌, refl, ap, sym, ◌∙◌}
use mathlib.Core.Bool.{true, false}
use mathlib.Core.List.{List, [], ◌∷◌, ◌++◌}
use lib.Dec.{eqb}
use lib.ListN.{length, take, drop, length-take, length-drop}
use lib.Seq.{take-take, take-add, drop_at}
use borrow.Author.Tests.{eq-eqb, eqb-true}
use Rattle.base.proofs.Cases.{by_bool, same_test, clash}
use Rattle.base.proofs.Every.{both_left, both_right, both_true}
use Rattle.number.specs.Stored.{Bytes, value_from, value_of, bytes_of}
use Rattle.number.proofs.Laws.{bytes_take, bytes_drop, bytes_value, value_small}
use Rattle.packet.specs.Structure.{key, same}

pub same_eq : (l m : List ℕ) → same l m ≡ true → l ≡ m
same_eq [] [] e = refl
same_eq [] (b ∷ m) e = clash (sym e)
same_eq (a ∷ l) [] e = clash (sym e)
same_eq (a ∷ l) (b ∷ m) e =
    let x : a ≡ b = eqb-true a b (both_left (eqb a b) (same l m) e) in
    let y : l ≡ m = same_eq l m (both_right (eqb a b) (same l m) e) in
    cc

pub same_refl : (l : List ℕ) → same l l ≡ true
same_refl [] = refl
same_refl (a ∷ l) = both_true (eqb a a) (same l l) (eq-eqb a a refl) (same_refl l)

key_length : length key ≡ 16
unfolding key
key_length = refl

abbrev front : ℕ
front = 0x060E_2B34_020B_0101

abbrev back : ℕ
back = 0x0E01_0301_0100_0000

key_halves : key ≡ bytes_of 8 front ++ bytes_of 8 back
unfolding key bytes_of
key_halves = refl

key_front : value_of (take 8 key) ≡ front
unfolding key value_from
key_front = refl

key_back : value_of (take 8 (drop 8 key)) ≡ back
unfolding key value_from
key_back = refl

key_rest : drop 8 key ≡ take 8 (drop 8 key)
unfolding key
key_rest = refl

module _ (p : List ℕ) where
  pub no_key : length p < 16 → false ≡ same (take 16 p) key
  no_key short =
      by_bool (same (take 16 p) key)
      (λ e. absurd (omega (arith, ap length (same_eq (take 16 p) key e), length-take 16 p, key_length)))
      (λ e. sym e)

  module _ (by : Bytes p) (long : 16 ≤ length p) where
    -- eight bytes are had back from their value
    eight : (at v : ℕ) → at + 8 ≤ 16 → v ≡ value_of (take 8 (drop at p)) % 2 ^ 64 → (v ≡ value_of (take 8 (drop at p))) × (take 8 (drop at p) ≡ bytes_of 8 v)
    eight at v h e =
        let l : List ℕ = take 8 (drop at p) in
        let b : Bytes l = bytes_take 8 (drop at p) (bytes_drop at by) in
        let n : length l ≡ 8 = rw (length-take, length-drop) (omega arith) in
        let small : value_of l < 256 ^ 8 = rw n at (value_small l b) in
        let same : v ≡ value_of l = omega arith in
        (same, sym (rw (n, ← same) at (bytes_value 0 l b)))

    halves : take 16 p ≡ take 8 p ++ take 8 (drop 8 p)
    halves = take-add 8 8 p

    keyed : same (take 16 p) key ≡ true → (take 8 p ≡ take 8 key) × (take 8 (drop 8 p) ≡ take 8 (drop 8 key))
    keyed e =
        let q : take 16 p ≡ key = same_eq (take 16 p) key e in
        let n : length (take 8 p) ≡ 8 = rw length-take (omega arith) in
        let r : drop 8 (take 16 p) ≡ take 8 (drop 8 p) = ap (drop 8) halves ∙ drop_at (take 8 p) (take 8 (drop 8 p)) 8 n in
        (sym (take-take 8 16 p (omega arith)) ∙ ap (take 8) q, sym r ∙ (ap (drop 8) q ∙ key_rest))

    pub by_halves : (v w : ℕ) → v ≡ value_of (take 8 p) % 2 ^ 64 → w ≡ value_of (take 8 (drop 8 p)) % 2 ^ 64 → v ≡ front → eqb w back ≡ same (take 16 p) key
    by_halves v w ev ew e =
        same_test (eqb w back) (same (take 16 p) key)
        (λ f. let fst = (eight 0 v (omega arith) ev).1 in
        let snd = (eight 8 w (omega arith) ew).1 in
        rw (halves, fst, snd, e, eqb-true w back f, ← key_halves) (same_refl key))
        (λ f. eq-eqb w back ((eight 8 w (omega arith) ew).0 ∙ (ap value_of (keyed f).1 ∙ key_back)))

    pub other_front : (v : ℕ) → v ≡ value_of (take 8 p) % 2 ^ 64 → (v ≡ front → ⊥) → false ≡ same (take 16 p) key
    other_front v ev other =
        by_bool (same (take 16 p) key)
        (λ e. absurd (other ((eight 0 v (omega arith) ev).0 ∙ (ap value_of (keyed e).0 ∙ key_front))))
        (λ e. sym e)
