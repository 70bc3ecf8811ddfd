-- `records::table_of` meets its contract: record by record.
use Rattle.std.proofs.Common.{◌∙◌, add-one, arith, replicate}
use Rattle.records.proofs.Laws.{images_none, images_more, images_all}
use Rattle.records.proofs.table_of.Goals as goal

pub loop-n-init : goal.loop-n-init
loop-n-init c = images_none _ _

pub loop-n-preserved : goal.loop-n-preserved
loop-n-preserved c =
    c.put_record.ensures ∙ rw (c.loop-n.invariant, add-one) (images_more c.loop-n.n c.args.records.now _ (replicate 512 0) (omega arith))

pub returns : goal.returns
returns c = c.loop-n.invariant ∙ images_all c.args.records.now c.min-n-end.ensures c.loop-n.auto.n-end c.loop-n-test.false
