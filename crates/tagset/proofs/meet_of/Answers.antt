-- `tagset::meet_of` meets its contract.
use mathlib.Core.Path.{refl}
use Rattle.tagset.specs.Sets.{meet}
use Rattle.tagset.proofs.meet_of.Goals as goal

pub returns : goal.returns
unfolding meet
returns c = refl
