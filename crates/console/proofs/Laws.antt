-- A word digit by digit: each is taken or is none, and what i digits say is below 16 ^ i.
-- Assumes nothing.
use Prim.Native.Nat.{ℕ, ◌+◌, ◌*◌, ◌^◌, ◌<◌, ◌≤◌}
use native.Mathlib.Omega.{arith}
use native.Mathlib.Nat.{pow-suc, pow-le-pow_right}
use native.Mathlib.Numerals.{add-one}
use mathlib.Core.Path.{◌≡◌}
use mathlib.Core.List.{List}
use lib.ListN.{length, get_or, drop}
use borrow.Author.Tests.{lt-ltb, ne_eqb}
use Rattle.std.specs.Prelude.{Some, None}
use Rattle.std.proofs.lemmas.Bool.Decides.{nat_tests}
use Rattle.base.proofs.Parts.{cons_at, nil_at}
use Rattle.console.specs.Word.{digit_of, word_from, word_of}

pub too_long : (l : List ℕ) → 16 < length l → word_of l ≡ None
unfolding word_of
too_long l h = rw (ne_eqb (length l) 0 (λ e. omega arith), lt-ltb 16 (length l) h)

-- a digit stands for less than 16
pub digit_small : (x d : ℕ) → digit_of x ≡ Some d → d ≤ 15
unfolding digit_of
digit_small x d e = grind (arith, nat_tests)

module _ (l : List ℕ) (i high : ℕ) where
  pub word_end : length l ≤ i → word_from high (drop i l) ≡ Some high
  unfolding word_from
  word_end h = rw (nil_at l i h)

  pub word_broken : i < length l → digit_of (get_or l i 0) ≡ None → word_from high (drop i l) ≡ None
  unfolding word_from
  word_broken h e = rw (cons_at l i h, e, word_from)

  pub word_goes_on : (d : ℕ) → i < length l → digit_of (get_or l i 0) ≡ Some d → word_from high (drop i l) ≡ word_from (high * 16 + d) (drop (i + 1) l)
  unfolding word_from
  word_goes_on d h e = rw (cons_at l i h, e, word_from)

module _ (high digit i : ℕ) (small : high < 16 ^ i) (d : digit ≤ 15) where
  pub grows : high * 16 + digit < 16 ^ (i + 1)
  grows = rw (add-one, pow-suc 16 i) (omega arith)

  pub fits : i < 16 → high * 16 + digit < 2 ^ 64
  fits h = omega (arith, grows, pow-le-pow_right {n = 16} (omega arith) {i = i + 1} {j = 16} (omega arith))
