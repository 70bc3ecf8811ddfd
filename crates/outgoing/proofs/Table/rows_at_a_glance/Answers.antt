-- `outgoing::Table::rows_at_a_glance` meets its contract.
use native.Mathlib.Omega.{arith}
use Rattle.outgoing.proofs.Walked.{rows_small}
use Rattle.outgoing.proofs.Glanced.{walks_begin, walks_more, walks_end}
use Rattle.outgoing.proofs.Table.rows_at_a_glance.Goals as goal

pub loop-n-init : goal.loop-n-init
loop-n-init c = walks_begin _ _ _ _ (record { low64 = omega arith; high64 = omega arith })

pub overflow_add-items : goal.overflow_add-items
overflow_add-items c =
    let t = c.args.self.now in
    let more = walks_more _ _ _ _ c.loop-n.invariant c.loop-n-test.true _ c.row-row.ensures c.in_ok-size.ensures in
    omega (arith, more.size, rows_small 0 t.count t.words.now)

pub loop-n-preserved : goal.loop-n-preserved
loop-n-preserved c = rw c.with_tag-seen.ensures (walks_more _ _ _ _ c.loop-n.invariant c.loop-n-test.true _ c.row-row.ensures c.in_ok-size.ensures)

pub returns : goal.returns
returns c = walks_end _ _ _ _ c.loop-n.invariant c.loop-n-test.false
