-- `scale::height_to_house` meets its contract.
use borrow.Author.Rules.{rules}
use mathlib.Core.Path.{◌≡◌, sym, ◌∙◌}
use mir.Syntax.{w64}
use mir.Val.{SFits}
use mir.Facts.{to_z-of_z}
use Rattle.catalogue.specs.Shapes.{length_allowed}
use Rattle.scale.proofs.Classes.{height_lengths}
use Rattle.scale.proofs.Given.{height_converts, height_20, height_19}
use Rattle.scale.proofs.height_to_house.Goals as goal

pub height_of-requires : goal.height_of-requires
height_of-requires c = sym c.is_in_reach.ensures ∙ c.if-is_in_reach.true

pub returns-then-is_in_reach : goal.returns-then-is_in_reach
returns-then-is_in_reach c =
    let n = c in
    let fits : SFits w64 c.height_of.result = search rules in
    rw (height_converts _ _ n.requires _ (sym n.is_in_reach.ensures ∙ c.if-is_in_reach.true), to_z-of_z fits, c.height_of.ensures)

pub returns-then-is_height_length : goal.returns-then-is_height_length
returns-then-is_height_length c =
    let lengths : length_allowed c.args.tag c.args.length ≡ c.is_height_length.result = height_lengths _ _ c.requires ∙ sym c.is_height_length.ensures in
    let n = c in
    let l = n in
    let in-reach = sym n.is_in_reach.ensures ∙ c.if-is_in_reach.false in
    rw (height_20 _ _ l.requires _ (lengths ∙ n.if-is_height_length.true) in-reach) c.refused.ensures

pub returns : goal.returns
returns c =
    let lengths : length_allowed c.args.tag c.args.length ≡ c.is_height_length.result = height_lengths _ _ c.requires ∙ sym c.is_height_length.ensures in
    let l = c in
    rw (height_19 _ _ l.requires _ (lengths ∙ c.if-is_height_length.false)) c.refused-2.ensures
