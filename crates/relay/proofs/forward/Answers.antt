-- `relay::forward` meets its contract.
use mathlib.Core.Path.{sym}
use Rattle.number.proofs.Laws.{bytes_lent}
use Rattle.refusal.proofs.Answers.{handed_on}
use Rattle.relay.proofs.Sending.{forward_refused, longer-by, forward_sent}
use Rattle.relay.proofs.forward.Goals as goal

pub returns-in_err-accepted : goal.returns-in_err-accepted
returns-in_err-accepted c = forward_refused _ _ _ _ _ _ (sym c.in_err-accepted.ensures) _ (handed_on _ _ c.from_residual.ensures.1 (λ s q. q))

pub send-requires : goal.send-requires
send-requires c = longer-by _ _ (bytes_lent c.type_inv.packet) _ (sym c.in_ok-accepted.ensures)

pub returns : goal.returns
returns c = forward_sent _ _ (bytes_lent c.type_inv.packet) _ (sym c.in_ok-accepted.ensures) _ _ _ c.send.ensures
