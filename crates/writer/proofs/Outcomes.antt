-- Each public function's contract determines its answer and what it leaves in the output lent.
-- Assumes nothing.
use Prim.Native.Nat.{ℕ}
use mathlib.Core.Path.{sym, ◌∙◌}
use mathlib.Core.List.{List}
use Rattle.base.specs.Determined.{Determined}
use Rattle.writer.proofs.write.Kinds as write-kinds
use Rattle.writer.proofs.write.Reads as write-reads
use Rattle.writer.proofs.write_with.Kinds as write-with-kinds
use Rattle.writer.proofs.write_with.Reads as write-with-reads
use Rattle.refusal.proofs.Laws.{answer_apart}

pub write_determined : Determined 3 write-kinds.ps write-kinds.r write-reads.Post (List ℕ) (λ κs e. e.1.1.1.1.0.now)
write_determined κs a z z' e e' p q = (answer_apart z z' (p.answer ∙ sym q.answer), p.output ∙ sym q.output)

pub write_with_determined : Determined 3 write-with-kinds.ps write-with-kinds.r write-with-reads.Post (List ℕ) (λ κs e. e.1.1.1.1.1.0.now)
write_with_determined κs a z z' e e' p q = (answer_apart z z' (p.answer ∙ sym q.answer), p.output ∙ sym q.output)
