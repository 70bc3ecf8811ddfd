-- `rows::is_good_row` meets its contract.
use mathlib.Core.Path.{◌≡◌, sym, ◌∙◌}
use mathlib.Core.Bool.{true, false}
use Rattle.catalogue.specs.Shapes.{is_empty}
use Rattle.rows.specs.Taken.{part_length, row_good, value_row_good}
use Rattle.rows.proofs.is_good_row.Goals as goal

pub returns-then-is_empty : goal.returns-then-is_empty
unfolding row_good
returns-then-is_empty c =
    let x = c in
    let args = x.args in
    let empty : is_empty args.shape (part_length args.row.part) ≡ true = sym x.is_empty.ensures ∙ c.if-is_empty.true in
    rw empty c.is_good_withdrawal.ensures

pub returns : goal.returns
unfolding row_good value_row_good
returns c =
    let x = c in
    let args = x.args in
    let some : is_empty args.shape (part_length args.row.part) ≡ false = sym x.is_empty.ensures ∙ c.if-is_empty.false in
    rw some c.is_good_value_row.ensures
