-- `scale::to_house` meets its contract.
use borrow.Author.Rules.{rules}
use mathlib.Core.Path.{◌≡◌, ap, sym, ◌∙◌}
use Rattle.std.specs.Option.{option_map}
use mathlib.Core.Bool.{false}
use mir.Syntax.{w64}
use mir.Val.{SFits}
use mir.Facts.{to_z-of_z}
use Rattle.catalogue.specs.Extended.{is_extended}
use Rattle.scale.specs.Conversions.{to_house}
use Rattle.scale.proofs.Given.{Scaled, scaled_known, every_code_converts, no_number_20}
use Rattle.scale.proofs.to_house.Goals as goal

pub height_to_house-requires : goal.height_to_house-requires
height_to_house-requires c = sym c.is_extended.ensures ∙ c.if-is_extended.true

pub scaled_item-requires : goal.scaled_item-requires
scaled_item-requires c = sym c.is_extended.ensures ∙ c.if-is_extended.false

pub house_of-requires : goal.house_of-requires
house_of-requires c =
    let has_scale : Scaled c.args.tag c.in-Some.scaled.item =
    scaled_known _ _ (sym c.scaled_item.ensures ∙ ap (option_map (λ s. s.item)) c.in-Some.is) in
    sym c.is_number.ensures ∙ c.if-is_number.true

pub returns-then-is_number : goal.returns-then-is_number
returns-then-is_number c =
    let has_scale : Scaled c.args.tag c.in-Some.scaled.item =
    scaled_known _ _ (sym c.scaled_item.ensures ∙ ap (option_map (λ s. s.item)) c.in-Some.is) in
    let fits : SFits w64 c.house_of.result = search rules in
    rw (every_code_converts has_scale _ _ (sym c.is_number.ensures ∙ c.if-is_number.true), to_z-of_z fits, c.house_of.ensures)

pub returns-else-is_number : goal.returns-else-is_number
returns-else-is_number c =
    let has_scale : Scaled c.args.tag c.in-Some.scaled.item =
    scaled_known _ _ (sym c.scaled_item.ensures ∙ ap (option_map (λ s. s.item)) c.in-Some.is) in
    rw (no_number_20 has_scale _ _ (sym c.is_number.ensures ∙ c.if-is_number.false)) c.refused.ensures

pub returns-in-None : goal.returns-in-None
unfolding to_house
returns-in-None c =
    let plain : is_extended c.args.tag ≡ false = sym c.is_extended.ensures ∙ c.if-is_extended.false in
    rw (plain, ← c.scaled_item.ensures, c.in-None.is) c.refused-in-None.ensures
