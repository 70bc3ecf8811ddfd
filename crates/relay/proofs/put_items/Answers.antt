-- `relay::put_items` meets its contract.
use native.Mathlib.Omega.{arith}
use mathlib.Core.Path.{sym}
use Rattle.base.proofs.Putting.{to_write}
use Rattle.number.proofs.Laws.{bytes_lent}
use Rattle.relay.proofs.Items.{item_lies, all_waiting, put_done, put_room, put_more}
use Rattle.relay.proofs.put_items.Goals as goal

pub loop-item-init : goal.loop-item-init
loop-item-init c = all_waiting _ _ c.requires.0 c.requires.1

pub put_item-at-requires : goal.put_item-at-requires
put_item-at-requires c =
    let by = bytes_lent c.type_inv.packet in
    let found = sym c.in-Ok.ensures in
    ((item_lies _ _ found by).inside, put_room _ _ c.loop-item.invariant found by)

pub overflow_add-here : goal.overflow_add-here
overflow_add-here c = omega (arith, (item_lies _ _ (sym c.in-Ok.ensures) (bytes_lent c.type_inv.packet)).inside)

pub loop-item-smaller : goal.loop-item-smaller
loop-item-smaller c = omega (arith, item_lies _ _ (sym c.in-Ok.ensures) (bytes_lent c.type_inv.packet))

pub loop-item-preserved : goal.loop-item-preserved
loop-item-preserved c = put_more _ _ c.loop-item.invariant (sym c.in-Ok.ensures) (bytes_lent c.type_inv.packet) c.put_item-at.ensures

pub returns : goal.returns
returns c =
    let all = put_done _ _ c.loop-item.invariant (sym c.in_default.ensures) in
    rw (← all.0, ← all.1) (to_write c.requires.1)
