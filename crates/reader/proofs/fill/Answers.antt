-- `reader::fill` meets its contract.
use mathlib.Core.Path.{ap, ◌∙◌}
use native.Mathlib.Omega.{arith}
use Rattle.number.specs.Stored.{Bytes}
use Rattle.number.proofs.Laws.{bytes_lent}
use Rattle.reader.specs.code.Filling.{put_row}
use Rattle.reader.proofs.Filling.{short, all_left, none_left, table_filled, item_there, next_item}
use Rattle.reader.proofs.fill.Goals as goal

pub loop-n-init : goal.loop-n-init
loop-n-init c = all_left (bytes_lent c.type_inv.packet) c.requires.0 _

pub header_at-item-requires : goal.header_at-item-requires
header_at-item-requires c = item_there c.loop-n.invariant c.loop-n-test.true

pub row_of-requires : goal.row_of-requires
row_of-requires c =
    let by = bytes_lent c.type_inv.packet in
    let next = next_item c.loop-n.invariant c.loop-n-test.true by c.header_at-item.ensures in
    (next.inside, short by c.requires.0, next.narrow, next.behind)

pub overflow_add-here : goal.overflow_add-here
overflow_add-here c =
    let by : Bytes c.args.packet.now = bytes_lent c.type_inv.packet in
    omega (arith, (next_item c.loop-n.invariant c.loop-n-test.true by c.header_at-item.ensures).inside, short by c.requires.0)

pub loop-n-preserved : goal.loop-n-preserved
loop-n-preserved c =
    let next = next_item c.loop-n.invariant c.loop-n-test.true (bytes_lent c.type_inv.packet) c.header_at-item.ensures in
    next.left (c.put_row.ensures ∙ ap (put_row c.loop-n.table c.loop-n.n) c.row_of.ensures)

pub returns : goal.returns
returns c =
    table_filled (bytes_lent c.type_inv.packet) c.requires.0 c.args.table.now c.requires.2 (none_left c.loop-n.invariant c.loop-n-test.false)
    (c.fill.ensures.after (λ y e. e))
