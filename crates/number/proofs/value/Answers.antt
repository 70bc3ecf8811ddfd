-- `number::value` meets its contract.
use native.Mathlib.Omega.{arith}
use Rattle.number.specs.Stored.{value_from}
use Rattle.number.proofs.Widths.{value_picked}
use Rattle.number.proofs.value.Goals as goal

pub returns-in-len2 : goal.returns-in-len2
unfolding value_from
returns-in-len2 c = omega (arith, value_picked 2 c.args.s.now (omega arith))

pub returns-in-len4 : goal.returns-in-len4
unfolding value_from
returns-in-len4 c = omega (arith, value_picked 4 c.args.s.now (omega arith))

pub returns-in-len1 : goal.returns-in-len1
unfolding value_from
returns-in-len1 c = omega (arith, value_picked 1 c.args.s.now (omega arith))

pub returns-in-len8 : goal.returns-in-len8
unfolding value_from
returns-in-len8 c = omega (arith, value_picked 8 c.args.s.now (omega arith))
