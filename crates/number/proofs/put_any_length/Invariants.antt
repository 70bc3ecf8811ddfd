use Rattle.base.proofs.Digits.{Filling}
use Rattle.number.proofs.put_any_length.Given as goal

abbrev pub invariant-loop-i : goal.invariant-loop-i
invariant-loop-i l = Filling 256 (λ d. d) l.initial.out l.x l.out l.left l.i
