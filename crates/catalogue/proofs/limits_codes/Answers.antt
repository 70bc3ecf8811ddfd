-- `catalogue::limits_codes` meets its contract.
use Rattle.base.proofs.Cases.{cases}
use borrow.Author.Tests.{ne_eqb}
use Rattle.catalogue.specs.Shapes.{codes_limited}
use Rattle.catalogue.proofs.limits_codes.Goals as goal

pub returns-then-tag-eq63 : goal.returns-then-tag-eq63
unfolding codes_limited
returns-then-tag-eq63 c = search cases

pub returns-else-tag-eq63 : goal.returns-else-tag-eq63
unfolding codes_limited
returns-else-tag-eq63 c = rw (ne_eqb _ _ c.if-tag-eq63.false.0, ne_eqb _ _ c.if-tag-eq63.false.1) c.is_extended.ensures
