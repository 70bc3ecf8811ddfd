-- `scale::to_code` meets its contract.
use borrow.Author.Rules.{rules}
use mathlib.Core.Path.{◌≡◌, ap, sym, ◌∙◌}
use Rattle.std.specs.Option.{option_map}
use mathlib.Core.Bool.{false}
use mir.Syntax.{w64}
use mir.Val.{SFits}
use mir.Facts.{to_z-of_z}
use Rattle.catalogue.specs.Extended.{is_extended}
use Rattle.scale.specs.Scales.{is_outside}
use Rattle.scale.specs.Conversions.{to_code}
use Rattle.scale.proofs.Given.{Scaled, scaled_known, every_value_converts, outside_21}
use Rattle.scale.proofs.to_code.Goals as goal

pub height_to_code-requires : goal.height_to_code-requires
height_to_code-requires c = sym c.is_extended.ensures ∙ c.if-is_extended.true

pub returns-then-is_extended : goal.returns-then-is_extended
returns-then-is_extended c =
    let value_fits : SFits w64 c.args.value = search rules in
    rw (to_z-of_z value_fits) at c.height_to_code.ensures

pub scaled_item-requires : goal.scaled_item-requires
scaled_item-requires c = sym c.is_extended.ensures ∙ c.if-is_extended.false

pub returns-then-is_outside : goal.returns-then-is_outside
returns-then-is_outside c =
    let value_fits : SFits w64 c.args.value = search rules in
    let has_scale : Scaled c.args.tag c.in-Some.scaled.item =
    scaled_known _ _ (sym c.scaled_item.ensures ∙ ap (option_map (λ s. s.item)) c.in-Some.is) in
    let outside_is : is_outside c.in-Some.scaled.item c.args.value ≡ c.is_outside.result =
    (let i = c.in-Some.scaled.item in let low : SFits w64 i.low = search rules in let high : SFits w64 i.high = search rules in
    sym (rw (to_z-of_z low, to_z-of_z high, to_z-of_z value_fits) at c.is_outside.ensures)) in
    rw (outside_21 has_scale _ _ (outside_is ∙ c.if-is_outside.true)) c.refused.ensures

pub code_of-requires : goal.code_of-requires
code_of-requires c =
    let value_fits : SFits w64 c.args.value = search rules in
    let has_scale : Scaled c.args.tag c.in-Some.scaled.item =
    scaled_known _ _ (sym c.scaled_item.ensures ∙ ap (option_map (λ s. s.item)) c.in-Some.is) in
    let outside_is : is_outside c.in-Some.scaled.item c.args.value ≡ c.is_outside.result =
    (let i = c.in-Some.scaled.item in let low : SFits w64 i.low = search rules in let high : SFits w64 i.high = search rules in
    sym (rw (to_z-of_z low, to_z-of_z high, to_z-of_z value_fits) at c.is_outside.ensures)) in
    rw (to_z-of_z value_fits) (outside_is ∙ c.if-is_outside.false)

pub returns-else-is_outside : goal.returns-else-is_outside
returns-else-is_outside c =
    let value_fits : SFits w64 c.args.value = search rules in
    let has_scale : Scaled c.args.tag c.in-Some.scaled.item =
    scaled_known _ _ (sym c.scaled_item.ensures ∙ ap (option_map (λ s. s.item)) c.in-Some.is) in
    let outside_is : is_outside c.in-Some.scaled.item c.args.value ≡ c.is_outside.result =
    (let i = c.in-Some.scaled.item in let low : SFits w64 i.low = search rules in let high : SFits w64 i.high = search rules in
    sym (rw (to_z-of_z low, to_z-of_z high, to_z-of_z value_fits) at c.is_outside.ensures)) in
    let fits = value_fits in
    rw (every_value_converts has_scale _ _ (outside_is ∙ c.if-is_outside.false), rw (to_z-of_z fits) at c.code_of.ensures)

pub returns-in-None : goal.returns-in-None
unfolding to_code
returns-in-None c =
    let plain : is_extended c.args.tag ≡ false = sym c.is_extended.ensures ∙ c.if-is_extended.false in
    rw (plain, ← c.scaled_item.ensures, c.in-None.is) c.refused-in-None.ensures
