-- `scale::codes_of` meets its contract.
use Prim.Native.Nat.{◌*◌}
use native.Mathlib.Omega.{arith}
use native.Mathlib.Nat.{mod-eq_of_lt, one-mul}
use lib.Pow.{pow-lt}
use Rattle.scale.proofs.codes_of.Goals as goal

pub returns : goal.returns
returns c = rw (one-mul) (mod-eq_of_lt (pow-lt {i = 8 * c.args.width} {j = 64} (omega arith)))
