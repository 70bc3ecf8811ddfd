-- A whole number's bits are 0 exactly where it is 0.
-- Assumes nothing.
use native.Mathlib.Omega.{arith}
use mathlib.Core.Path.{◌≡◌, refl}
use mathlib.Core.Bool.{true, false}
use lib.IntN.{ℤ, pos, negsuc}
use mir.Syntax.{w64}
use mir.Val.{SFits, of_z}
use borrow.Author.Tests.{eq-eqb, ne_eqb}
use Rattle.catalogue.specs.Rows.{is_zero}

pub zero_bits : (z : ℤ) → SFits w64 z → of_z w64 z ≡ 0 → is_zero z ≡ true
zero_bits (pos n) f e = eq-eqb n 0 e
zero_bits (negsuc n) f e = absurd (omega arith)

pub other_bits : (z : ℤ) → (of_z w64 z ≡ 0 → ⊥) → is_zero z ≡ false
other_bits (pos n) e = ne_eqb n 0 e
other_bits (negsuc n) e = refl
