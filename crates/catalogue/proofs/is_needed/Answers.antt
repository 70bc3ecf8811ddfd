-- `catalogue::is_needed` meets its contract.
use Rattle.base.proofs.Cases.{cases}
use Rattle.catalogue.specs.Shapes.{is_needed}
use Rattle.catalogue.proofs.is_needed.Goals as goal

pub returns-then-tag-eq2 : goal.returns-then-tag-eq2
unfolding is_needed
returns-then-tag-eq2 c = search cases

pub returns-else-tag-eq2 : goal.returns-else-tag-eq2
unfolding is_needed
returns-else-tag-eq2 c = search cases
