-- `spelling::whole_size` meets its contract.
use native.Mathlib.Omega.{arith}
use Rattle.spelling.proofs.Signs.{below_whole, above_whole}
use Rattle.spelling.proofs.Digits.{decimal_few}
use Rattle.spelling.proofs.whole_size.Goals as goal

pub overflow_add-result : goal.overflow_add-result
overflow_add-result c = omega (arith, decimal_few c.unsigned_abs.result, c.decimal_size-size.ensures)

pub returns-then-v-lt0 : goal.returns-then-v-lt0
returns-then-v-lt0 c = rw (below_whole c.ranges.v c.if-v-lt0.true c.unsigned_abs.ensures.value) (omega (arith, c.decimal_size-size.ensures))

pub returns-else-v-lt0 : goal.returns-else-v-lt0
returns-else-v-lt0 c = rw (above_whole c.ranges.v c.if-v-lt0.false c.unsigned_abs.ensures.value) c.decimal_size-size.ensures
