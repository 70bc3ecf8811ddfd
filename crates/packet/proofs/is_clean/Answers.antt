-- `packet::is_clean` meets its contract.
use Rattle.base.proofs.Cases.{cases}
use Rattle.packet.specs.code.Concluded.{clean_in}
use Rattle.packet.proofs.is_clean.Goals as goal

pub returns-then-is_coded : goal.returns-then-is_coded
unfolding clean_in
returns-then-is_coded c = search cases

pub returns-else-is_coded : goal.returns-else-is_coded
unfolding clean_in
returns-else-is_coded c = search cases
