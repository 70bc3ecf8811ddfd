-- `scale::apart` meets its contract.
use borrow.Author.Rules.{rules}
use mathlib.Core.Path.{◌∙◌}
use mir.Syntax.{w64}
use mir.Val.{SFits}
use mir.Facts.{to_z-of_z}
use Rattle.scale.proofs.Whole.{lt_z_turn, nat_abs_turn}
use Rattle.scale.proofs.apart.Goals as goal

pub up_to-requires : goal.up_to-requires
up_to-requires c =
    let from_fits : SFits w64 c.args.from = search rules in
    let to_fits : SFits w64 c.args.to = search rules in
    let a = c in
    let e = rw (to_z-of_z (to_fits), to_z-of_z (from_fits)) at c.if-to-from.true in
    rw (to_z-of_z (to_fits), to_z-of_z (from_fits)) (lt_z_turn a.args.to a.args.from e, a.requires.1, a.requires.0)

pub returns-then-to-from : goal.returns-then-to-from
returns-then-to-from c =
    let from_fits : SFits w64 c.args.from = search rules in
    let to_fits : SFits w64 c.args.to = search rules in
    let a = c in
    (rw (to_z-of_z (to_fits), to_z-of_z (from_fits)) at c.up_to.ensures) ∙ nat_abs_turn a.args.from a.args.to

pub returns : goal.returns
returns c =
    let from_fits : SFits w64 c.args.from = search rules in
    let to_fits : SFits w64 c.args.to = search rules in
    let a = c in
    rw (to_z-of_z (to_fits), to_z-of_z (from_fits)) at c.up_to-2.ensures
