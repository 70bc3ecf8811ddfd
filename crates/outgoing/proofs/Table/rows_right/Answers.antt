-- `outgoing::Table::rows_right` meets its contract.
use mathlib.Core.Path.{sym, ◌∙◌}
use Rattle.tagset.specs.Sets.{holds}
use Rattle.outgoing.proofs.Walked.{good_more, good_bad, good_end}
use Rattle.outgoing.proofs.Table.rows_right.Goals as goal

pub loop-n-preserved : goal.loop-n-preserved
loop-n-preserved c =
    let t = c.args.self.now in
    sym (good_more _ _ _ c.loop-n-test.true _ c.row-row.ensures (holds t.known) t.room _ c.shape_for.ensures (sym c.if-not-is_good_row.ensures))
    ∙ c.loop-n.invariant

pub returns-then-not-is_good_row : goal.returns-then-not-is_good_row
returns-then-not-is_good_row c =
    let t = c.args.self.now in
    rw c.tag_shown.ensures at c.refused.ensures
    ∙ (sym (good_bad _ _ _ c.loop-n-test.true _ c.row-row.ensures (holds t.known) t.room _ c.shape_for.ensures (sym c.if-not-is_good_row.ensures))
    ∙ c.loop-n.invariant)

pub returns : goal.returns
returns c = sym (good_end _ _ _ _ _ c.loop-n-test.false) ∙ c.loop-n.invariant
