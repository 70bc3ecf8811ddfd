use Prim.Native.Nat.{◌+◌}
use Rattle.base.proofs.Digits.{Filling}
use Rattle.spelling.proofs.fill.Given as goal

abbrev pub invariant-loop-i : goal.invariant-loop-i
invariant-loop-i l = Filling 10 (λ d. 48 + d) l.initial.out l.n l.out l.left l.i
