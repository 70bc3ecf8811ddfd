use Prim.Native.Nat.{◌-◌}
use mathlib.Core.Path.{◌≡◌}
use Rattle.rows.specs.Present.{is_present, words_from, present_in}
use Rattle.packet.specs.Rows.{rows_in}
use Rattle.outgoing.proofs.Table.present.Given as goal

abbrev pub invariant-loop-n : goal.invariant-loop-n
invariant-loop-n l =
    let t = l.self in
    words_from is_present l.present (rows_in l.n (t.count - l.n) t.words.now) ≡ present_in (rows_in 0 t.count t.words.now)
