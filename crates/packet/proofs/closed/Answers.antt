-- `packet::closed` meets its contract.
use mathlib.Core.Path.{◌≡◌, sym, ap, ◌∙◌}
use native.Mathlib.Omega.{arith}
use Rattle.refusal.specs.Answer.{given}
use Rattle.refusal.proofs.Answers.{handed_on}
use Rattle.packet.specs.Ends.{right_ends}
use Rattle.packet.specs.code.Concluded.{ends_by}
use Rattle.packet.proofs.Closing.{ends_right, closed_ends, closed_sum}
use Rattle.packet.proofs.closed.Goals as goal

pub returns-in_err-check_ends : goal.returns-in_err-check_ends
returns-in_err-check_ends c =
    handed_on _ _ c.from_residual.ensures.1 (λ s q. q)
    ∙ sym (closed_ends _ _ _ _ _ _ (sym (c.in_err-check_ends.ensures ∙ ap right_ends c.ends_of.ensures)))

pub is_summed-requires : goal.is_summed-requires
is_summed-requires c =
    let right : (let a = c.args in right_ends (ends_by a.packet.now a.from a.last) ≡ given tt) =
    sym (c.in_ok-check_ends.ensures ∙ ap right_ends c.ends_of.ensures) in
    omega (arith, (ends_right _ right).pair, c.requires)

pub returns-then-is_summed : goal.returns-then-is_summed
returns-then-is_summed c =
    sym (closed_sum _ _ _ (sym (c.in_ok-check_ends.ensures ∙ ap right_ends c.ends_of.ensures)) ∙ rw (sym c.is_summed.ensures ∙ c.if-is_summed.true))

pub returns : goal.returns
returns c =
    c.refused.ensures
    ∙ sym (closed_sum _ _ _ (sym (c.in_ok-check_ends.ensures ∙ ap right_ends c.ends_of.ensures)) ∙ rw (sym c.is_summed.ensures ∙ c.if-is_summed.false))
