-- `reader::lowest` meets its contract.
use Rattle.reader.proofs.Codes.{moved_down}
use Rattle.reader.proofs.lowest.Goals as goal

pub returns : goal.returns
returns c = moved_down c.args.width c.requires c.args.top
