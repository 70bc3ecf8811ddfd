-- `oysterknoll::oyk_start` meets its contract.
use mathlib.Core.Path.{ap, ◌∙◌}
use Rattle.oysterknoll.specs.Answers.{nothing, starting}
use Rattle.oysterknoll.proofs.Said.{start_good}
use Rattle.oysterknoll.proofs.oyk_start.Goals as goal

pub returns-in-Ok : goal.returns-in-Ok
returns-in-Ok c =
    ap (starting nothing) c.opened-begun.ensures.1
    ∙ start_good _ _ _ c.in-Ok.is c.opened-begun.ensures.0
