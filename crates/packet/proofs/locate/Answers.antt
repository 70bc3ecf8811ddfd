-- `packet::locate` meets its contract.
use mathlib.Core.Path.{sym, ap, ◌∙◌}
use Rattle.refusal.specs.Answer.{answer_said}
use Rattle.refusal.proofs.Answers.{handed_on}
use Rattle.packet.proofs.Concluding.{begins, located_begun, located_refused, located_given}
use Rattle.packet.proofs.locate.Goals as goal

pub returns-in_err-from : goal.returns-in_err-from
returns-in_err-from c = handed_on _ _ c.from_residual.ensures.1 (λ s q. q) ∙ sym (located_begun _ _ _ (sym c.in_err-from.ensures))

pub check_from-requires : goal.check_from-requires
check_from-requires c = begins _ _ _ (sym c.in_ok-from.ensures)

pub returns-in-Err : goal.returns-in-Err
returns-in-Err c =
    sym (located_refused _ _ _ (sym c.in_ok-from.ensures) _ _ _ (sym c.check_from.ensures.says ∙ ap answer_said c.in-Err.is))

pub returns-in-Ok : goal.returns-in-Ok
returns-in-Ok c =
    let found = c.check_from.ensures in
    let given = ap answer_said c.in-Ok.is in
    sym (located_given _ _ _ (sym c.in_ok-from.ensures) _ _ (sym found.says ∙ given) (found.places _ given))
