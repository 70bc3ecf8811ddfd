use lib.ListN.{drop}
use Rattle.base.proofs.Putting.{Copying}
use Rattle.writer.proofs.copy.Given as goal

abbrev pub invariant-loop-i : goal.invariant-loop-i
invariant-loop-i l = Copying l.initial.out l.at (drop l.place l.buffer) l.size l.out l.i
