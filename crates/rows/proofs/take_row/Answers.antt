-- `rows::take_row` meets its contract.
use mathlib.Core.Path.{sym, ap, ◌∙◌}
use lib.ListN.{length}
use borrow.Author.Tests.{lt-ltb, le-ltb}
use Rattle.tagset.specs.Sets.{holds}
use Rattle.rows.specs.Taken.{row_taken, row_taken_at}
use Rattle.rows.specs.Meaning.{shape_for}
use Rattle.rows.proofs.Laws.{shape_by_column}
use Rattle.rows.proofs.take_row.Goals as goal

pub returns-then-n-count : goal.returns-then-n-count
unfolding row_taken_at
returns-then-n-count c =
    let a = c.args in
    let row = c.row_at-row in
    let K = holds a.known in
    let room = length a.buffer.now in
    let shape = c.shape_for-shape.ensures ∙ shape_by_column K _ row.result.tag c.shapes-column.ensures in
    c.single.ensures
    ∙ (ap (λ s. row_taken s room a.n row.result) shape
    ∙ (ap (λ r. row_taken (shape_for K r.tag) room a.n r) row.ensures
    ∙ sym (rw (
      ← c.is_good.ensures,
      c.if-is_good.true,
      ← c.is_good_count.ensures,
      c.if-is_good_count.true,
      lt-ltb _ _ c.if-n-count.true,
    ))))

pub returns-then-is_good_count : goal.returns-then-is_good_count
unfolding row_taken_at
returns-then-is_good_count c =
    c.refused.ensures
    ∙ sym (rw (
      ← c.is_good.ensures,
      c.if-is_good.true,
      ← c.is_good_count.ensures,
      c.if-is_good_count.true,
      le-ltb _ _ c.if-n-count.false,
    ))

pub returns-then-is_good : goal.returns-then-is_good
unfolding row_taken_at
returns-then-is_good c =
    c.refused-then-is_good.ensures
    ∙ sym (rw (
      ← c.is_good.ensures,
      c.if-is_good.true,
      ← c.is_good_count.ensures,
      c.if-is_good_count.false,
    ))

pub returns : goal.returns
unfolding row_taken_at
returns c = c.refused-2.ensures ∙ sym (rw (← c.is_good.ensures, c.if-is_good.false))
