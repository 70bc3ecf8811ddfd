-- `writer::put_rows` meets its contract.
use Rattle.base.proofs.Putting.{to_write}
use Rattle.writer.proofs.Rest.{all_left, table_done, asked, done}
use Rattle.writer.proofs.put_rows.Goals as goal

pub loop-n-init : goal.loop-n-init
loop-n-init c = all_left _ _ c.requires.0.good c.requires.1

pub put_item-at-requires : goal.put_item-at-requires
put_item-at-requires c = asked _ _ _ c.loop-n.invariant c.loop-n-test.true c.row_at.ensures

pub loop-n-preserved : goal.loop-n-preserved
loop-n-preserved c = done _ _ _ c.loop-n.invariant c.loop-n-test.true c.row_at.ensures c.put_item-at.ensures

pub returns : goal.returns
returns c =
    let all = table_done _ _ _ c.loop-n.invariant c.loop-n-test.false in
    rw (← all.0, ← all.1) (to_write c.requires.1)
