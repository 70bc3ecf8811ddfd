-- `records::put_record` meets its contract.
use native.Mathlib.Omega.{arith}
use Rattle.records.proofs.Laws.{puts}
use Rattle.records.proofs.put_record.Goals as goal

pub returns : goal.returns
returns c = puts c.args.table.now c.args.n c.image_of-words.ensures (omega arith) c.requires c.copy_from_slice.ensures.after
