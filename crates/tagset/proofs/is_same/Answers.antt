-- `tagset::is_same` meets its contract.
use Rattle.tagset.specs.Sets.{same}
use Rattle.tagset.proofs.is_same.Goals as goal

pub returns : goal.returns
unfolding same
returns c = c.eq.ensures
