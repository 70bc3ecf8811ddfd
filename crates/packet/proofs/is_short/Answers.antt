-- `packet::is_short` meets its contract.
use Rattle.base.proofs.Cases.{cases}
use Rattle.packet.specs.code.Headers.{short_forms}
use Rattle.packet.proofs.is_short.Goals as goal

pub returns-then-tag-lt128 : goal.returns-then-tag-lt128
unfolding short_forms
returns-then-tag-lt128 c = search cases

pub returns-else-tag-lt128 : goal.returns-else-tag-lt128
unfolding short_forms
returns-else-tag-lt128 c = search cases
