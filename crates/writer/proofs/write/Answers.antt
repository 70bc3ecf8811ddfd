-- `writer::write` meets its contract.
use Rattle.writer.proofs.Answers.{plainly}
use Rattle.writer.proofs.write.Goals as goal

pub returns : goal.returns
returns c = plainly c.write_handed.ensures
