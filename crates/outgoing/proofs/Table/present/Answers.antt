-- `outgoing::Table::present` meets its contract.
use mathlib.Core.Path.{◌≡◌, sym, ◌∙◌}
use native.Mathlib.Nat.{sub-zero}
use borrow.Author.Tests.{eq-eqb, ne_eqb}
use Rattle.rows.specs.Meaning.{carried_kind}
use Rattle.rows.specs.Present.{is_present, with_row, present_in}
use Rattle.outgoing.proofs.Walked.{words_more, words_end}
use Rattle.outgoing.proofs.Table.present.Goals as goal
use Rattle.outgoing.proofs.Table.present.Goals.{then-row-ne-CARRIED, else-row-ne-CARRIED}

pub loop-n-init : goal.loop-n-init
unfolding present_in
loop-n-init c = rw sub-zero

pub loop-n-preserved : goal.loop-n-preserved
loop-n-preserved c =
    let kind = c.row-row.result.kind in
    let passed : c.if-row-ne-CARRIED.present ≡ with_row is_present c.loop-n.present c.row-row.result =
    elim c.if-row-ne-CARRIED.branch [
      | then-row-ne-CARRIED w ↦ w.present-is ∙ (w.with_tag-present.ensures ∙ sym (rw (ne_eqb kind carried_kind w.if-row-ne-CARRIED.true)))
      | else-row-ne-CARRIED w ↦ w.present-is ∙ sym (rw (eq-eqb kind carried_kind w.if-row-ne-CARRIED.false))
    ] in
    rw passed (sym (words_more _ _ _ c.loop-n-test.true _ c.row-row.ensures c.loop-n.present) ∙ c.loop-n.invariant)

pub returns : goal.returns
returns c = sym (words_end _ _ _ _ c.loop-n-test.false) ∙ c.loop-n.invariant
