-- `walker::value_at` meets its contract.
use mathlib.Core.Path.{refl, ◌∙◌}
use native.Mathlib.Omega.{arith}
use Rattle.base.proofs.Parts.{part_lent}
use Rattle.number.proofs.Laws.{bytes_lent}
use Rattle.walker.proofs.Headers.{part_said, item_inside}
use Rattle.walker.proofs.value_at.Goals as goal

pub overflow_add-result : goal.overflow_add-result
overflow_add-result c = omega (arith, item_inside _ _ _ _ c.item_at.ensures c.in-Ok.is (bytes_lent c.type_inv.packet) _ refl)

pub slice_bounds-result-end : goal.slice_bounds-result-end
slice_bounds-result-end c = item_inside _ _ _ _ c.item_at.ensures c.in-Ok.is (bytes_lent c.type_inv.packet) _ refl

pub returns-in-Ok : goal.returns-in-Ok
returns-in-Ok c =
    let item = c.in-Ok.item in
    part_lent c.args.packet.now item.place item.size ∙ part_said _ _ _ _ c.item_at.ensures c.in-Ok.is

pub returns-in-Err : goal.returns-in-Err
returns-in-Err c = part_said _ _ _ _ c.item_at.ensures c.in-Err.is
