-- `packet::check_ends` meets its contract.
use mathlib.Core.Path.{◌∙◌}
use Rattle.base.proofs.Cases.{cases}
use Rattle.packet.specs.Ends.{right_ends}
use Rattle.packet.proofs.check_ends.Goals as goal

pub returns-then-ends-ne2 : goal.returns-then-ends-ne2
unfolding right_ends
returns-then-ends-ne2 c = c.refused.ensures ∙ search cases

pub returns-then-two_bytes : goal.returns-then-two_bytes
unfolding right_ends
returns-then-two_bytes c = search cases

pub returns : goal.returns
unfolding right_ends
returns c = c.refused-2.ensures ∙ search cases
