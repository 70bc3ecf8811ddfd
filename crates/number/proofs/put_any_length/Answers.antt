-- `number::put_any_length` meets its contract: from place i on stand the lowest bytes, and `left` is what is left of the number.
use native.Mathlib.Omega.{arith}
use Rattle.base.proofs.Digits.{fill_next, fill_done}
use Rattle.number.specs.Stored.{bytes_of}
use Rattle.number.proofs.put_any_length.Goals as goal

pub loop-i-preserved : goal.loop-i-preserved
loop-i-preserved c = fill_next c.loop-i.invariant (omega arith)

pub returns : goal.returns
unfolding bytes_of
returns c = fill_done c.loop-i.invariant (omega arith)
