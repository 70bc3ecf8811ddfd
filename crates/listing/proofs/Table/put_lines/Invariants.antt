use Prim.Native.Nat.{◌+◌}
use mathlib.Core.Path.{◌≡◌}
use lib.ListN.{length}
use Rattle.base.specs.Putting.{put_into, Wrote}
use Rattle.packet.specs.Rows.{rows_in}
use Rattle.listing.specs.Lines.{lines_of}
use Rattle.listing.proofs.Rows.{lines_from}
use Rattle.listing.proofs.Table.put_lines.Given as goal

abbrev pub invariant-loop-n : goal.invariant-loop-n
invariant-loop-n l =
    let t = l.self in
    let lines = lines_of t.packet.now (rows_in 0 t.count t.words.now) in
    let o = l.initial.out in
    (l.out.bytes.ghost_name ≡ o.bytes.ghost_name)
    × Wrote l.out.bytes.now l.out.at (lines_from t.packet.now t.words.now l.n t.count) (o.at + length lines) (put_into o.bytes.now o.at lines)
