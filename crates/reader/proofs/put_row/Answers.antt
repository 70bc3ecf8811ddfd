-- `reader::put_row` meets its contract.
use Rattle.reader.proofs.Laws.{row_stored}
use Rattle.reader.proofs.put_row.Goals as goal

pub returns : goal.returns
returns c = row_stored c.args.table.now c.args.n c.args.row
