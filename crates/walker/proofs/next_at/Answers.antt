-- `walker::next_at` meets its contract.
use mathlib.Core.Path.{refl}
use native.Mathlib.Omega.{arith}
use Rattle.number.proofs.Laws.{bytes_lent}
use Rattle.walker.proofs.Headers.{next_said, item_inside}
use Rattle.walker.proofs.next_at.Goals as goal

pub overflow_add-result : goal.overflow_add-result
overflow_add-result c =
    omega (arith, item_inside _ _ _ _ c.item_at.ensures c.in-Ok.is (bytes_lent c.type_inv.packet) _ refl, c.well_formed)

pub returns-in-Ok : goal.returns-in-Ok
returns-in-Ok c = next_said _ _ _ _ c.item_at.ensures c.in-Ok.is

pub returns-in-Err : goal.returns-in-Err
returns-in-Err c = next_said _ _ _ _ c.item_at.ensures c.in-Err.is
