-- `records::mark_code` meets its contract.
use Prim.Native.Nat.{◌-◌, ◌*◌, ◌^◌}
use mathlib.Core.Path.{sym, ap}
use native.Mathlib.Omega.{arith}
use Rattle.tagset.proofs.Words.{one_shl}
use Rattle.records.proofs.mark_code.Goals as goal

pub returns-then-width-eq0 : goal.returns-then-width-eq0
returns-then-width-eq0 c = ap (λ w. 2 ^ (8 * w - 1)) (sym c.if-width-eq0.true)

pub returns : goal.returns
returns c = one_shl (8 * c.args.width - 1) (omega arith)
