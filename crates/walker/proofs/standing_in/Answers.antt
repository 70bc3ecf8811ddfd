-- `walker::standing_in` meets its contract.
use Rattle.walker.proofs.Rows.{standing_made}
use Rattle.walker.proofs.standing_in.Goals as goal

pub returns : goal.returns
returns c = standing_made _ _ c.args.item _ _ _ c.requires c.shape_of-shape.ensures c.code_of-code.ensures c.kind_of.ensures
