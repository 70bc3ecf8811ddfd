-- `records::width_of` meets its contract.
use mathlib.Core.Path.{sym, ◌∙◌}
use Rattle.records.proofs.Laws.{width_known, width_absent}
use Rattle.records.proofs.width_of.Goals as goal

pub returns-in-Some : goal.returns-in-Some
returns-in-Some c = width_known _ _ (sym c.item_of.ensures ∙ c.in-Some.is)

pub returns-in-None : goal.returns-in-None
returns-in-None c = width_absent _ (sym c.item_of.ensures ∙ c.in-None.is)
