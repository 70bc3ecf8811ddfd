use Rattle.base.proofs.Putting.{Copying}
use Rattle.spelling.proofs.put_text.Given as goal

abbrev pub invariant-loop-i : goal.invariant-loop-i
invariant-loop-i l = Copying l.initial.out l.at l.text l.size l.out l.i
