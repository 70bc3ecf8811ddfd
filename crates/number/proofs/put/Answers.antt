-- `number::put` meets its contract.
use mathlib.Core.Path.{◌∙◌}
use Rattle.number.proofs.Widths.{high_first, low_first}
use Rattle.number.proofs.put.Goals as goal

pub returns-in-2 : goal.returns-in-2
returns-in-2 c = c.copy_from_slice.ensures.after ∙ rw (c.to_be_bytes.ensures, c.in-2.is) (low_first 2 _)

pub returns-in-4 : goal.returns-in-4
returns-in-4 c = c.copy_from_slice-in-4.ensures.after ∙ rw (c.to_be_bytes-in-4.ensures, c.in-4.is) (low_first 4 _)

pub returns-in-1 : goal.returns-in-1
returns-in-1 c = c.copy_from_slice-in-1.ensures.after ∙ rw c.in-1.is (high_first 1 _)
