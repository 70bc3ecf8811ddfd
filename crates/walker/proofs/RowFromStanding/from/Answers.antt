-- A row taken out singly of an item where it stands is what the item says.
use Rattle.walker.specs.Steps.{row_seen}
use Rattle.walker.proofs.RowFromStanding.from.Goals as goal

pub returns : goal.returns
unfolding row_seen
returns c = rw c.content_of.ensures
