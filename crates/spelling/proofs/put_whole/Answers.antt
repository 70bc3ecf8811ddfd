-- `spelling::put_whole` meets its contract.
use Rattle.spelling.proofs.Signs.{below_whole, above_whole}
use Rattle.spelling.proofs.put_whole.Goals as goal

pub returns-then-v-lt0 : goal.returns-then-v-lt0
returns-then-v-lt0 c = rw (below_whole c.ranges.v c.if-v-lt0.true c.unsigned_abs.ensures.value) c.put_minus.ensures

pub returns : goal.returns
returns c = rw (above_whole c.ranges.v c.if-v-lt0.false c.unsigned_abs-2.ensures.value) c.put_decimal.ensures
