-- `reader::read` meets its contract.
use mathlib.Core.Path.{sym, ap, ◌∙◌}
use Rattle.refusal.specs.Answer.{answer_said}
use Rattle.number.proofs.Laws.{bytes_lent}
use Rattle.refusal.proofs.Answers.{handed_on}
use Rattle.reader.proofs.Filling.{few}
use Rattle.reader.proofs.Answers.{not_good, short_table, refused_packet, may_fill, table_read}
use Rattle.reader.proofs.read.Goals as goal

pub returns-then-not-is_good : goal.returns-then-not-is_good
returns-then-not-is_good c = not_good (sym c.is_good.ensures ∙ c.if-not-is_good.true) c.refused.ensures

pub returns-then-short : goal.returns-then-short
returns-then-short c = short_table (sym c.is_good.ensures ∙ c.if-not-is_good.false) c.if-short.true c.refused-then-short.ensures

pub returns-in_err-accepted : goal.returns-in_err-accepted
returns-in_err-accepted c =
    refused_packet _ _ _ (sym c.is_good.ensures ∙ c.if-not-is_good.false) c.if-short.false (sym c.check-checked.ensures ∙ ap answer_said c.in_err-accepted.was)
    (handed_on _ _ c.from_residual.ensures.1 (λ s q. q))

pub fill-requires : goal.fill-requires
fill-requires c =
    let by = bytes_lent c.type_inv.packet in
    let accepts = may_fill (sym c.check-checked.ensures ∙ ap answer_said c.in_ok-accepted.was) by in
    (accepts, few by accepts, c.if-short.false)

pub returns : goal.returns
returns c =
    table_read _ _ _ (sym c.is_good.ensures ∙ c.if-not-is_good.false) c.if-short.false (sym c.check-checked.ensures ∙ ap answer_said c.in_ok-accepted.was) c.fill.ensures
