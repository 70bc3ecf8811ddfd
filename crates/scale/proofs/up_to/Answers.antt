-- `scale::up_to` meets its contract.
use borrow.Author.Rules.{rules}
use mir.Syntax.{w64}
use mir.Val.{SFits}
use mir.Facts.{to_z-of_z}
use Rattle.base.proofs.Whole.{natural}
use Rattle.scale.proofs.Whole.{difference_fits, up_natural}
use Rattle.scale.proofs.up_to.Goals as goal

pub overflow_sub-result : goal.overflow_sub-result
overflow_sub-result c =
    let to_fits : SFits w64 c.args.to = search rules in
    let from_fits : SFits w64 c.args.from = search rules in
    rw (to_z-of_z to_fits, to_z-of_z from_fits) (difference_fits c.args.to c.args.from c.requires.2 c.requires.1)

pub overflow_cast-result : goal.overflow_cast-result
overflow_cast-result c =
    let to_fits : SFits w64 c.args.to = search rules in
    let from_fits : SFits w64 c.args.from = search rules in
    let fits = difference_fits c.args.to c.args.from c.requires.2 c.requires.1 in
    rw (to_z-of_z to_fits, to_z-of_z from_fits, to_z-of_z fits) (natural _ fits (up_natural c.args.from c.args.to c.requires.0))

pub returns : goal.returns
returns c =
    let to_fits : SFits w64 c.args.to = search rules in
    let from_fits : SFits w64 c.args.from = search rules in
    let fits = difference_fits c.args.to c.args.from c.requires.2 c.requires.1 in
    rw (to_z-of_z to_fits, to_z-of_z from_fits, to_z-of_z fits)
