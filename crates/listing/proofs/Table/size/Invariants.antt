use Prim.Native.Nat.{◌+◌}
use mathlib.Core.Path.{◌≡◌}
use lib.ListN.{length}
use Rattle.packet.specs.Rows.{rows_in}
use Rattle.listing.specs.Lines.{lines_of}
use Rattle.listing.proofs.Rows.{lines_from}
use Rattle.listing.proofs.Table.size.Given as goal

abbrev pub invariant-loop-n : goal.invariant-loop-n
invariant-loop-n l =
    let t = l.self in
    l.size + length (lines_from t.packet.now t.words.now l.n t.count) ≡ length (lines_of t.packet.now (rows_in 0 t.count t.words.now))
