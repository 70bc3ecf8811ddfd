-- `outgoing::height_size` meets its contract.
use mathlib.Core.Path.{sym}
use Rattle.outgoing.proofs.Glanced.{height_plain}
use Rattle.outgoing.proofs.height_size.Goals as goal

pub returns-then-is_in_reach : goal.returns-then-is_in_reach
returns-then-is_in_reach c room =
    let reach = rw c.length_of.ensures at c.if-is_in_reach.ensures in
    height_plain c.args.row c.requires c.if-row-eq-READING.true (sym reach) room _ c.row_size.ensures
