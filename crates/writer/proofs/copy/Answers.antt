-- `writer::copy` meets its contract.
use mathlib.Core.Path.{sym}
use native.Mathlib.Omega.{arith}
use Prim.Native.Nat.{ℕ, ◌+◌, ◌<◌, ◌≤◌}
use mathlib.Core.List.{List}
use lib.ListN.{length, drop, length-drop}
use lib.Seq.{get_or-drop, length-take-le}
use Rattle.base.proofs.Cases.{by_eq}
use Rattle.base.proofs.Putting.{copy_start, copy_next, copy_done, all_wrote}
use Rattle.writer.proofs.copy.Goals as goal

within : (b : List ℕ) (place size : ℕ) → (0 < size → place + size ≤ length b) → size ≤ length (drop place b)
within b place size inside = rw length-drop (by_eq size 0 (λ z. omega arith) (λ some. omega (arith, inside (omega arith))))

pub loop-i-init : goal.loop-i-init
loop-i-init c = copy_start c.requires.0 (within c.args.buffer.now c.args.place c.args.size c.requires.1)

pub bounds-buffer-place : goal.bounds-buffer-place
bounds-buffer-place c =
    let more = c.loop-i-test.true in
    omega (arith, c.requires.1 (omega arith), more)

pub bounds-out-at : goal.bounds-out-at
bounds-out-at c = omega (arith, c.loop-i.invariant.kept, c.requires.0, c.loop-i-test.true)

pub loop-i-preserved : goal.loop-i-preserved
loop-i-preserved c =
    let l = c.loop-i in
    let a = c.args in
    copy_next l.invariant _ (sym (get_or-drop a.place a.buffer.now l.i 0)) c.loop-i-test.true

pub returns : goal.returns
returns c =
    let all = c.loop-i.invariant in
    all_wrote _ _ _ _ (length-take-le _ _ all.enough) all.room _ (copy_done all c.loop-i-test.false)
