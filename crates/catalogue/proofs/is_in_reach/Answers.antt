-- `catalogue::is_in_reach` meets its contract.
use Prim.Native.Nat.{ℕ, ◌-◌, ◌*◌, ◌%◌, ◌^◌, ◌≤◌}
use native.Mathlib.Omega.{arith}
use native.Mathlib.Nat.{mod-eq_of_lt}
use mathlib.Core.Path.{◌≡◌}
use lib.Dec.{leb}
use lib.Pow.{pow_mono}
use borrow.Author.Tests.{le-leb, lt-leb}
use Rattle.base.proofs.Cases.{by_lt, cases}
use Rattle.catalogue.specs.Extended.{in_reach}
use Rattle.catalogue.proofs.is_in_reach.Goals as goal

doubled : (code x : ℕ) → leb code (20450 * x) ≡ leb (2 * code) (40900 * x)
doubled code x =
    by_lt (20450 * x) code
    (λ h. rw (lt-leb code (20450 * x) h, lt-leb (2 * code) (40900 * x) (omega arith)))
    (λ h. rw (le-leb code (20450 * x) h, le-leb (2 * code) (40900 * x) (omega arith)))

pub returns-then-size-le4 : goal.returns-then-size-le4
unfolding in_reach
returns-then-size-le4 c =
    let s = c.args.size in
    let x : ℕ = 2 ^ (8 * s - 16) in
    let small : x ≤ 2 ^ 16 = pow_mono {i = 8 * s - 16} {j = 16} (omega arith) in
    let whole : (20450 * x) % 18446744073709551616 ≡ 20450 * x = mod-eq_of_lt (omega arith) in
    rw (whole, le-leb 2 s c.if-size-le4.true.0, le-leb s 4 c.if-size-le4.true.1) (doubled c.args.code x)

pub returns-else-size-le4 : goal.returns-else-size-le4
unfolding in_reach
returns-else-size-le4 c = search cases
