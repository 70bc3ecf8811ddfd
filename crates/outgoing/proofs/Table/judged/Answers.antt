-- `outgoing::Table::judged` meets its contract.
use mathlib.Core.Path.{sym, ◌∙◌}
use Rattle.outgoing.proofs.Walked.{judged_more, judged_wrong, judged_end}
use Rattle.outgoing.proofs.Table.judged.Goals as goal

pub returns-in-Err : goal.returns-in-Err
returns-in-Err c =
    c.refused.ensures
    ∙ (sym (judged_wrong _ _ _ c.loop-n-test.true _ c.row-row.ensures _ _ _ c.in-Err.ensures) ∙ c.loop-n.invariant)

pub loop-n-preserved : goal.loop-n-preserved
loop-n-preserved c =
    rw c.with_tag-seen.ensures (sym (judged_more _ _ _ c.loop-n-test.true _ c.row-row.ensures _ _ c.in_default.ensures) ∙ c.loop-n.invariant)

pub returns-then-has : goal.returns-then-has
returns-then-has c =
    let t = c.args.self.now in
    sym (rw (← c.if-has.ensures) at (judged_end t.words.now t.count c.loop-n.n t.known c.loop-n.seen c.loop-n-test.false)) ∙ c.loop-n.invariant

pub returns : goal.returns
returns c =
    let t = c.args.self.now in
    c.refused-2.ensures
    ∙ (sym (rw (← c.if-has.ensures) at (judged_end t.words.now t.count c.loop-n.n t.known c.loop-n.seen c.loop-n-test.false)) ∙ c.loop-n.invariant)
