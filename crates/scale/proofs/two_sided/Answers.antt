-- `scale::two_sided` meets its contract.
use borrow.Author.Rules.{rules}
use mir.Syntax.{w64}
use mir.Val.{SFits}
use mir.Facts.{to_z-of_z}
use Rattle.base.proofs.Whole.{natural}
use Rattle.scale.proofs.two_sided.Goals as goal

pub overflow_cast-result : goal.overflow_cast-result
overflow_cast-result c =
    let fits : SFits w64 c.args.high = search rules in
    rw (to_z-of_z fits) (natural _ fits c.requires.high_from_zero)
