-- `writer::put_number` meets its contract.
use Rattle.ber.proofs.Putting.{number_wrote}
use Rattle.writer.proofs.put_number.Goals as goal

pub returns : goal.returns
returns c = number_wrote _ _ _ _ c.requires _ c.put.ensures
