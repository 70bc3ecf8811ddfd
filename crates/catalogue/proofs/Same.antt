-- Tests for two whole numbers, two items and two lookups being the same, and that they are right.
-- Assumes nothing.
use mathlib.Core.Path.{◌≡◌, refl, ap, sym}
use mathlib.Core.Bool.{Bool, true, false, ◌&&◌}
use lib.Dec.{eqb}
use lib.IntN.{ℤ, pos, negsuc}
use borrow.Author.Tests.{eqb-true}
use Rattle.base.proofs.Cases.{clash}
use Rattle.base.proofs.Every.{both_left, both_right}
use Rattle.catalogue.specs.declared.Sign.{Sign}
use Rattle.catalogue.specs.declared.Sign.TheVariants.{Unsigned, Signed, Marked}
use Rattle.catalogue.specs.declared.Item.{Item}
use Rattle.std.specs.Prelude.{Option, Some, None}

abbrev pub same_whole : ℤ → ℤ → Bool
same_whole (pos m) (pos n) = eqb m n
same_whole (pos m) (negsuc n) = false
same_whole (negsuc m) (pos n) = false
same_whole (negsuc m) (negsuc n) = eqb m n

pub same-whole : (a b : ℤ) → same_whole a b ≡ true → a ≡ b
same-whole (pos m) (pos n) e = ap pos (eqb-true m n e)
same-whole (pos m) (negsuc n) e = clash (sym e)
same-whole (negsuc m) (pos n) e = clash (sym e)
same-whole (negsuc m) (negsuc n) e = ap negsuc (eqb-true m n e)

abbrev pub same_sign : Sign → Sign → Bool
same_sign Unsigned Unsigned = true
same_sign Unsigned Signed = false
same_sign Unsigned Marked = false
same_sign Signed Unsigned = false
same_sign Signed Signed = true
same_sign Signed Marked = false
same_sign Marked Unsigned = false
same_sign Marked Signed = false
same_sign Marked Marked = true

pub same-sign : (a b : Sign) → same_sign a b ≡ true → a ≡ b
same-sign Unsigned Unsigned e = refl
same-sign Unsigned Signed e = clash (sym e)
same-sign Unsigned Marked e = clash (sym e)
same-sign Signed Unsigned e = clash (sym e)
same-sign Signed Signed e = refl
same-sign Signed Marked e = clash (sym e)
same-sign Marked Unsigned e = clash (sym e)
same-sign Marked Signed e = clash (sym e)
same-sign Marked Marked e = refl

abbrev pub same_item : Item → Item → Bool
same_item a b =
    eqb a.tag b.tag && (eqb a.width b.width && (same_sign a.sign b.sign
    && (same_whole a.low b.low && same_whole a.high b.high)))

pub same-item : (a b : Item) → same_item a b ≡ true → a ≡ b
same-item a b e =
    let e₁ = both_right (eqb a.tag b.tag) _ e in
    let e₂ = both_right (eqb a.width b.width) _ e₁ in
    let e₃ = both_right (same_sign a.sign b.sign) _ e₂ in
    let tag = eqb-true a.tag b.tag (both_left (eqb a.tag b.tag) _ e) in
    let width = eqb-true a.width b.width (both_left (eqb a.width b.width) _ e₁) in
    let sign = same-sign a.sign b.sign (both_left (same_sign a.sign b.sign) _ e₂) in
    let low = same-whole a.low b.low (both_left (same_whole a.low b.low) _ e₃) in
    let high = same-whole a.high b.high (both_right (same_whole a.low b.low) _ e₃) in
    λ i. record { tag = tag i; width = width i; sign = sign i; low = low i; high = high i }

abbrev pub same_found : Option Item → Option Item → Bool
same_found (Some a) (Some b) = same_item a b
same_found (Some a) None = false
same_found None (Some b) = false
same_found None None = true

pub same-found : (a b : Option Item) → same_found a b ≡ true → a ≡ b
same-found (Some a) (Some b) e = ap Some (same-item a b e)
same-found (Some a) None e = clash (sym e)
same-found None (Some b) e = clash (sym e)
same-found None None e = refl
