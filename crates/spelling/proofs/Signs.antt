-- A value of 64 bits by its sign: what code reads of it, and its text.
-- Assumes nothing.
use Prim.Native.Nat.{ℕ}
use native.Mathlib.Omega.{arith}
use mathlib.Core.List.{◌∷◌}
use mathlib.Core.Path.{◌≡◌, refl}
use mathlib.Core.Bool.{true, false}
use lib.IntN.{ℤ, pos, negsuc, nat_abs}
use lib.Signed.{lt_z}
use mir.Syntax.{w64}
use mir.Val.{SFits, to_z, of_z}
use mir.Facts.{to_z-of_z}
use borrow.Author.Tests.{ltb-true}
use Rattle.base.proofs.Cases.{clash}
use Rattle.spelling.specs.Spelling.{decimal, whole}

whole_below : (z : ℤ) → lt_z z (pos 0) ≡ true → whole z ≡ 45 ∷ decimal (nat_abs z)
unfolding whole
whole_below (pos n) e = absurd (omega (arith, ltb-true n 0 e))
whole_below (negsuc n) e = refl

whole_above : (z : ℤ) → lt_z z (pos 0) ≡ false → whole z ≡ decimal (nat_abs z)
unfolding whole
whole_above (pos n) e = refl
whole_above (negsuc n) e = clash e

module _ {v : ℤ} (fits : SFits w64 v) where
  pub below_whole : {far : ℕ} → lt_z (to_z w64 (of_z w64 v)) (pos 0) ≡ true → far ≡ nat_abs (to_z w64 (of_z w64 v)) → whole v ≡ 45 ∷ decimal far
  below_whole below e = let is = rw (to_z-of_z fits) at e in rw (whole_below v (rw (to_z-of_z fits) at below), is)

  pub above_whole : {far : ℕ} → lt_z (to_z w64 (of_z w64 v)) (pos 0) ≡ false → far ≡ nat_abs (to_z w64 (of_z w64 v)) → whole v ≡ decimal far
  above_whole above e = let is = rw (to_z-of_z fits) at e in rw (whole_above v (rw (to_z-of_z fits) at above), is)
