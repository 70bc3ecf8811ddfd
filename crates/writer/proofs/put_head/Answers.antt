-- `writer::put_head` meets its contract.
use native.Mathlib.Omega.{arith}
use Rattle.base.proofs.Putting.{wrote_length}
use Rattle.writer.proofs.Whole.{key_put, key_fits, head_put}
use Rattle.writer.proofs.put_head.Goals as goal

pub put_number-requires : goal.put_number-requires
put_number-requires c = omega (arith, key_fits _ c.requires)

pub put_number-requires-2 : goal.put_number-requires-2
put_number-requires-2 c = omega (arith, key_fits _ c.requires, wrote_length c.put_number.ensures)

pub overflow_add-result : goal.overflow_add-result
overflow_add-result c =
    omega (arith, (head_put c.requires (key_put c.put_number.ensures c.put_number-2.ensures) c.put_length.ensures).inside, c.well_formed)

pub returns : goal.returns
returns c = head_put c.requires (key_put c.put_number.ensures c.put_number-2.ensures) c.put_length.ensures
