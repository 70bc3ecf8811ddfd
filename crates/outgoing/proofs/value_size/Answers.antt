-- `outgoing::value_size` meets its contract.
use mathlib.Core.Path.{sym}
use Rattle.outgoing.proofs.Glanced.{value_plain}
use Rattle.outgoing.proofs.value_size.Goals as goal

pub returns-then-allows_code : goal.returns-then-allows_code
returns-then-allows_code c =
    let allowed = rw c.length_of-size.ensures at c.if-allows_length.ensures in
    let coded = rw c.length_of-size.ensures at c.if-allows_code.ensures in
    value_plain _ _ _ _ c.requires (sym c.if-is_good_value_row.ensures) (sym allowed) (sym coded) c.row_size.ensures
