-- `rows::is_good_code` meets its contract.
use native.Mathlib.Omega.{arith}
use borrow.Author.Tests.{ne_eqb, lt-ltb, le-leb}
use Prim.Native.Nat.{◌*◌, ◌^◌}
use lib.Pow.{pow_mono}
use Rattle.rows.proofs.is_good_code.Goals as goal

pub returns-then-width-ge8 : goal.returns-then-width-ge8
returns-then-width-ge8 c =
    let a = c.args in
    rw (le-leb _ _ c.if-width-ge8.true, ne_eqb _ 1 c.if-tag-eq1.false, lt-ltb a.code (2 ^ (8 * a.width)) (omega (arith, pow_mono {i = 64} {j = 8 * a.width} (omega arith))))
