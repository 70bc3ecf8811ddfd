-- `spelling::fill` meets its contract: from place i on stand the lowest digits, and `left` is what is left of the number.
use native.Mathlib.Omega.{arith}
use Rattle.base.proofs.Digits.{fill_next, fill_done}
use Rattle.spelling.specs.Spelling.{digits}
use Rattle.spelling.proofs.fill.Goals as goal

pub loop-i-preserved : goal.loop-i-preserved
loop-i-preserved c = fill_next c.loop-i.invariant (omega arith)

pub returns : goal.returns
unfolding digits
returns c = fill_done c.loop-i.invariant (omega arith)
