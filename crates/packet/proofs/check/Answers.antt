-- `packet::check` meets its contract.
use mathlib.Core.Path.{sym, ◌∙◌}
use Rattle.refusal.proofs.Answers.{handed_on}
use Rattle.packet.proofs.Concluding.{checked_begun, begins}
use Rattle.packet.proofs.check.Goals as goal

pub returns-in_err-from : goal.returns-in_err-from
returns-in_err-from c = handed_on _ _ c.from_residual.ensures.1 (λ s q. q) ∙ sym (checked_begun _ _ _ (sym c.in_err-from.ensures))

pub check_from-requires : goal.check_from-requires
check_from-requires c = begins _ _ _ (sym c.in_ok-from.ensures)

pub returns : goal.returns
returns c = c.check_from.ensures.says ∙ sym (checked_begun _ _ _ (sym c.in_ok-from.ensures))
