-- `scale::placed` meets its contract.
use borrow.Author.Rules.{rules}
use native.Mathlib.Omega.{arith}
use Prim.Native.Nat.{ℕ, ◌<◌, ◌^◌}
use lib.Signed.{mag}
use lib.IntN.{ℤ, pos, ◌+ℤ◌, ◌-ℤ◌}
use mir.Syntax.{w64}
use mir.Val.{SFits}
use mir.Facts.{to_z-of_z, to_z_pos}
use Rattle.scale.proofs.Whole.{sum_fits, difference_fits}
use Rattle.scale.proofs.placed.Goals as goal

-- the sum and the difference, as the code has them
below_fits : (origin : ℤ) (units : ℕ) → (mag origin < 2 ^ 62) × (units < 2 ^ 62) → SFits w64 (origin -ℤ pos units)
below_fits origin units h = difference_fits origin (pos units) h.0 h.1

above_fits : (origin : ℤ) (units : ℕ) → (mag origin < 2 ^ 62) × (units < 2 ^ 62) → SFits w64 (origin +ℤ pos units)
above_fits origin units h = sum_fits origin (pos units) h.0 h.1

pub overflow_sub-result : goal.overflow_sub-result
overflow_sub-result c =
    let fits : SFits w64 c.args.origin = search rules in
    rw (to_z-of_z fits, to_z_pos w64 {n = c.args.units} (omega arith)) (below_fits _ _ c.requires)

pub returns-then-below : goal.returns-then-below
returns-then-below c =
    let fits : SFits w64 c.args.origin = search rules in
    rw (c.if-below.true, to_z-of_z fits, to_z_pos w64 {n = c.args.units} (omega arith), to_z-of_z (below_fits c.args.origin c.args.units c.requires))

pub overflow_add-result : goal.overflow_add-result
overflow_add-result c =
    let fits : SFits w64 c.args.origin = search rules in
    rw (to_z-of_z fits, to_z_pos w64 {n = c.args.units} (omega arith)) (above_fits _ _ c.requires)

pub returns : goal.returns
returns c =
    let fits : SFits w64 c.args.origin = search rules in
    rw (c.if-below.false, to_z-of_z fits, to_z_pos w64 {n = c.args.units} (omega arith), to_z-of_z (above_fits c.args.origin c.args.units c.requires))
