-- `rows::is_mark` meets its contract.
use mathlib.Core.Path.{sym}
use native.Mathlib.Omega.{arith}
use Prim.Native.Nat.{◌-◌, ◌*◌, ◌^◌}
use lib.Pow.{pow_mono}
use borrow.Author.Tests.{lt-leb, ne_eqb}
use Rattle.rows.proofs.is_mark.Goals as goal

pub returns-else-width-le8 : goal.returns-else-width-le8
returns-else-width-le8 c =
    let a = c.args in
    rw (lt-leb _ _ c.if-width-le8.false)
    (sym (ne_eqb a.code (2 ^ (8 * a.width - 1)) (λ e. omega (arith, pow_mono {i = 64} {j = 8 * a.width - 1} (omega arith)))))
