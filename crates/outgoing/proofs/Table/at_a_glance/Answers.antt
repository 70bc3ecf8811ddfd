-- `outgoing::Table::at_a_glance` meets its contract.
use native.Mathlib.Omega.{arith}
use Rattle.outgoing.proofs.Walked.{rows_small}
use Rattle.outgoing.proofs.Table.at_a_glance.Goals as goal

pub ends_at_a_glance-requires : goal.ends_at_a_glance-requires
ends_at_a_glance-requires c =
    let t = c.args.self.now in
    omega (arith, c.in_ok-glance.ensures.size, rows_small 0 t.count t.words.now, t.few)
