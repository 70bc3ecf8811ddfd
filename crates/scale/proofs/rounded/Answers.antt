-- `scale::rounded` meets its contract.
use Prim.Native.Nat.{◌+◌, ◌*◌, ◌/◌}
use native.Mathlib.Omega.{arith}
use native.Mathlib.Nat.{mod-lt, div-add-mod, div-le_self, mul-add}
use mathlib.Core.Path.{sym}
use Rattle.scale.proofs.Nearest.{nearest_only}
use Rattle.scale.proofs.rounded.Goals as goal

pub overflow_sub-q : goal.overflow_sub-q
overflow_sub-q c = omega (arith, mod-lt (c.args.far * c.args.by) {m = c.args.q} (omega arith))

pub overflow_add-result : goal.overflow_add-result
overflow_add-result c = omega (arith, div-le_self (c.args.far * c.args.by) c.args.q)

pub returns-then-q-rest : goal.returns-then-q-rest
returns-then-q-rest c =
    let p = c.args.far * c.args.by in
    let q = c.args.q in
    let e = div-add-mod p q in
    let f = mul-add q (p / q) 1 in
    sym (nearest_only p q (p / q + 1) (record { over = omega arith; under = omega (arith, mod-lt p {m = q} (omega arith)) }))

pub returns : goal.returns
returns c =
    let p = c.args.far * c.args.by in
    let q = c.args.q in
    let e = div-add-mod p q in
    sym (nearest_only p q (p / q) (record { over = omega arith; under = omega arith }))
