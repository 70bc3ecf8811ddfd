-- `reader::topmost` meets its contract.
use Rattle.reader.proofs.Codes.{moved_up}
use Rattle.reader.proofs.topmost.Goals as goal

pub returns : goal.returns
returns c = moved_up c.args.width c.requires c.args.word
