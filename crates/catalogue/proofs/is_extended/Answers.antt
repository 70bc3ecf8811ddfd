-- `catalogue::is_extended` meets its contract.
use Rattle.base.proofs.Cases.{cases}
use Rattle.catalogue.specs.Extended.{is_extended}
use Rattle.catalogue.proofs.is_extended.Goals as goal

pub returns-then-tag-ge103 : goal.returns-then-tag-ge103
unfolding is_extended
returns-then-tag-ge103 c = search cases

pub returns-else-tag-ge103 : goal.returns-else-tag-ge103
unfolding is_extended
returns-else-tag-ge103 c = search cases
