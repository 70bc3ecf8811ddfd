-- `number::of_any_length` meets its contract: the value so far, gone on with the bytes that are left, is the value of all, modulo 2 ^ 64.
use mathlib.Core.Path.{◌∙◌}
use Prim.Native.Nat.{◌+◌, ◌*◌, ◌%◌, ◌^◌}
use native.Mathlib.Omega.{arith}
use lib.ListN.{drop, get_or}
use Rattle.base.proofs.Parts.{cons_at, nil_at}
use Rattle.number.specs.Stored.{value_from}
use Rattle.number.proofs.Laws.{value_wraps}
use Rattle.number.proofs.of_any_length.Goals as goal

pub loop-b-preserved : goal.loop-b-preserved
unfolding value_from
loop-b-preserved c =
    let l = c.loop-b in
    let s = c.args.s.now in
    let before = rw (cons_at s l.b-index (omega arith)) at l.invariant in
    value_wraps (l.v % 2 ^ 56 * 256 + c.from.result) (l.v * 256 + get_or s l.b-index 0) (drop (l.b-index + 1) s) (omega arith) ∙ before

pub returns : goal.returns
unfolding value_from
returns c =
    let l = c.loop-b in
    omega (arith, rw (nil_at c.args.s.now l.b-index (omega arith)) at l.invariant)
