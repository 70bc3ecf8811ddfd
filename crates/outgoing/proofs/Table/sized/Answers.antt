-- `outgoing::Table::sized` meets its contract.
use native.Mathlib.Omega.{arith}
use Rattle.outgoing.proofs.Walked.{rows_small}
use Rattle.outgoing.proofs.Table.sized.Goals as goal

pub packet_size-packed-requires : goal.packet_size-packed-requires
packet_size-packed-requires c =
    let t = c.args.self.now in
    omega (arith, c.items_size.ensures, rows_small 0 t.count t.words.now, t.few)
