use Prim.Native.Nat.{◌-◌}
use mathlib.Core.Path.{◌≡◌}
use Rattle.packet.specs.Rows.{rows_in}
use Rattle.outgoing.specs.code.Staged.{rows_judged, judged_in}
use Rattle.outgoing.proofs.Table.judged.Given as goal

abbrev pub invariant-loop-n : goal.invariant-loop-n
invariant-loop-n l =
    let t = l.self in
    rows_judged t.known l.seen l.n (rows_in l.n (t.count - l.n) t.words.now) ≡ judged_in t.known t.count t.words.now
