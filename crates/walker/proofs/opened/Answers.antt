-- `walker::opened` meets its contract.
use Rattle.walker.proofs.Headers.{begin-said, place_said}
use Rattle.walker.proofs.opened.Goals as goal

pub returns-in-Ok : goal.returns-in-Ok
returns-in-Ok c = (begin-said _ _ _ _ c.check.ensures c.in-Ok.is, place_said _ _ _ _ c.check.ensures c.in-Ok.is)

pub returns-in-Err : goal.returns-in-Err
returns-in-Err c = (begin-said _ _ _ _ c.check.ensures c.in-Err.is, place_said _ _ _ _ c.check.ensures c.in-Err.is)
