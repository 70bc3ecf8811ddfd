use lib.Seq.{sets}
use Rattle.tagset.specs.Sets.{holds}
use Rattle.packet.specs.Rows.{rows_of, words}
use Rattle.reader.specs.code.Filling.{items_of}
use Rattle.reader.proofs.Filling.{Left}
use Rattle.reader.proofs.fill.Given as goal

abbrev pub invariant-loop-n : goal.invariant-loop-n
invariant-loop-n l =
    Left l.known l.packet l.count l.here l.n l.table (sets l.initial.table 0 (words (rows_of (holds l.known) (items_of l.known l.packet))))
