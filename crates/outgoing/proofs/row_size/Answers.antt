-- `outgoing::row_size` meets its contract.
use native.Mathlib.Omega.{arith}
use Rattle.outgoing.proofs.Walked.{row_small}
use Rattle.outgoing.proofs.row_size.Goals as goal

pub overflow_add-result : goal.overflow_add-result
overflow_add-result c =
    let small = row_small c.args.row in
    let head = rw c.length_of-length.ensures at c.length_size.ensures in
    omega (arith, small.tag, small.head, head, c.tag_size.ensures)

pub overflow_add-result-2 : goal.overflow_add-result-2
overflow_add-result-2 c =
    let small = row_small c.args.row in
    let head = rw c.length_of-length.ensures at c.length_size.ensures in
    omega (arith, small.tag, small.head, small.value, head, c.length_of-length.ensures, c.tag_size.ensures)
