-- Item 39: one degree C a code, in two's complement, from -128 to 127, with no mark.
-- Assumes nothing.
use Prim.Native.Nat.{ℕ, ◌-◌, ◌*◌, ◌<◌, ◌≤◌}
use native.Mathlib.Omega.{arith}
use mathlib.Core.Path.{◌≡◌, refl, ap, ◌∙◌}
use lib.IntN.{pos, neg_ℤ, +ℤ_idl}
use borrow.Author.Tests.{lt-ltb, le-leb, lt-leb}
use Rattle.catalogue.specs.Items.{groups, member, item_in, item_of}
use Rattle.catalogue.specs.declared.Item.{Item}
use Rattle.catalogue.specs.declared.Sign.TheVariants.{Signed}
use Rattle.scale.specs.Nearest.{nearest}
use Rattle.scale.specs.Scales.{codes, half, origin, reach, steps}
use Rattle.scale.specs.Conversions.{house_of, to_house}
use Rattle.scale.proofs.Nearest.{nearest_whole}
use Rattle.scale.proofs.Given.{Scaled, every_code_converts, Gives}

temperature : Item
temperature = record { tag = 39; width = 1; sign = Signed; low = neg_ℤ (pos 128000); high = pos 127000 }

item_39 : Scaled 39 temperature
unfolding groups member item_in item_of temperature
item_39 = record { known = refl; has_scale = refl }

thousands : (n : ℕ) → nearest (n * 127000) 127 ≡ n * 1000
thousands n = ap (λ p. nearest p 127) (let e : n * 127000 ≡ 127 * (n * 1000) = omega arith in e) ∙ nearest_whole (n * 1000) 127 (omega arith)

pub degrees_above : (n code : ℕ) → code < 128 → Gives (to_house 39 n code) (λ h. h.value ≡ pos (code * 1000))
unfolding temperature codes half origin reach steps house_of
degrees_above n code h =
    rw (every_code_converts item_39 n code (rw (lt-ltb code 256 (omega arith))), lt-leb 128 code h, thousands code) (+ℤ_idl (pos (code * 1000)))

pub degrees_below : (n code : ℕ) → 128 ≤ code → code < 256 → Gives (to_house 39 n code) (λ h. h.value ≡ neg_ℤ (pos ((256 - code) * 1000)))
unfolding temperature codes half origin reach steps house_of
degrees_below n code h k =
    rw (every_code_converts item_39 n code (rw (lt-ltb code 256 k)), le-leb 128 code h, thousands (256 - code)) (+ℤ_idl (neg_ℤ (pos ((256 - code) * 1000))))
