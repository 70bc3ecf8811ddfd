-- The public function's contract determines its answer and what it leaves in the output lent.
-- Assumes nothing.
use Prim.Native.Nat.{ℕ}
use mathlib.Core.Path.{sym, ◌∙◌}
use mathlib.Core.List.{List}
use Rattle.base.specs.Determined.{Determined}
use Rattle.relay.proofs.forward.Kinds as forward-kinds
use Rattle.relay.proofs.forward.Reads as forward-reads
use Rattle.refusal.proofs.Laws.{answer_apart}

pub forward_determined : Determined 2 forward-kinds.ps forward-kinds.r forward-reads.Post (List ℕ) (λ κs e. e.1.1.0.now)
forward_determined κs a z z' e e' p q = (answer_apart z z' (p.answer ∙ sym q.answer), p.output ∙ sym q.output)
