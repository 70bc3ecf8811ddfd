use Rattle.outgoing.proofs.Glanced.{Walks}
use Rattle.outgoing.proofs.Table.rows_at_a_glance.Given as goal

abbrev pub invariant-loop-n : goal.invariant-loop-n
invariant-loop-n l = let t = l.self in Walks t.known t.room t.count t.words.now l.n l.seen l.items
