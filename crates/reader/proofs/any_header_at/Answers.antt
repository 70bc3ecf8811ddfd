-- `reader::any_header_at` meets its contract.
use mathlib.Core.Path.{sym, ap, ◌∙◌}
use Rattle.refusal.proofs.Answers.{not_given}
use Rattle.refusal.specs.Answer.{answer_said}
use Rattle.reader.proofs.any_header_at.Goals as goal

pub returns-in-Ok : goal.returns-in-Ok
returns-in-Ok c = sym c.item_at.ensures ∙ ap answer_said c.in-Ok.is

pub returns-in-Err : goal.returns-in-Err
returns-in-Err c = not_given (ap answer_said (sym c.in-Err.is) ∙ (c.item_at.ensures ∙ c.requires.found))
