use Prim.Native.Nat.{◌-◌}
use mathlib.Core.Path.{◌≡◌}
use Rattle.tagset.specs.Sets.{holds}
use Rattle.packet.specs.Rows.{rows_in}
use Rattle.outgoing.specs.Outgoing.{right_rows}
use Rattle.outgoing.proofs.Table.rows_right.Given as goal

abbrev pub invariant-loop-n : goal.invariant-loop-n
invariant-loop-n l =
    let t = l.self in
    right_rows (holds t.known) t.room l.n (rows_in l.n (t.count - l.n) t.words.now)
    ≡ right_rows (holds t.known) t.room 0 (rows_in 0 t.count t.words.now)
