-- `ground::point_on_earth` meets its contract.
use mathlib.Core.Path.{◌≡◌, sym, ap₂, ◌∙◌}
use borrow.Author.Rules.{rules}
use lib.IntN.{ℤ, ◌+ℤ◌}
use mir.Syntax.{w64}
use mir.Val.{SFits, to_z, of_z}
use mir.Facts.{to_z-of_z}
use Rattle.ground.specs.Earth.{beyond_pole, turn_for, brought_back}
use Rattle.ground.proofs.Earth.{back_fits}
use Rattle.ground.proofs.point_on_earth.Goals as goal

-- a longitude and its turn, as words of 64 bits, make the longitude brought back
sum_so : (longitude turn : ℤ) → SFits w64 longitude → SFits w64 turn → turn ≡ turn_for (to_z w64 (of_z w64 longitude))
    → to_z w64 (of_z w64 longitude) +ℤ to_z w64 (of_z w64 turn) ≡ brought_back longitude
sum_so longitude turn f g e =
    let same : turn ≡ turn_for longitude = rw (to_z-of_z f) at e in
    ap₂ (λ x y. x +ℤ y) (to_z-of_z f) (to_z-of_z g ∙ same)

pub overflow_add-longitude : goal.overflow_add-longitude
overflow_add-longitude c =
    let longitude : SFits w64 c.args.plain.longitude = search rules in
    let turn : SFits w64 c.turn_for.result = search rules in
    rw (sum_so _ _ longitude turn c.turn_for.ensures) (back_fits _ longitude)

pub returns : goal.returns
returns c =
    let latitude : SFits w64 c.args.plain.latitude = search rules in
    let longitude : SFits w64 c.args.plain.longitude = search rules in
    let turn : SFits w64 c.turn_for.result = search rules in
    let beyond : c.is_outside.result ≡ beyond_pole c.args.plain.latitude = rw (to_z-of_z latitude) at c.is_outside.ensures in
    rw (
      sum_so _ _ longitude turn c.turn_for.ensures,
      to_z-of_z (back_fits _ longitude),
      to_z-of_z latitude,
      sym beyond ∙ c.if-is_outside.false,
    )
