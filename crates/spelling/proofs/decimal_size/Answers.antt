-- `spelling::decimal_size` meets its contract.
use native.Mathlib.Omega.{arith}
use Rattle.spelling.proofs.Digits.{sized}
use Rattle.spelling.proofs.decimal_size.Goals as goal

pub returns : goal.returns
returns c = let power = c.ilog10.ensures in sized c.args.n c.max.result _ (omega arith) c.max.ensures power.power_le power.next_power_gt
