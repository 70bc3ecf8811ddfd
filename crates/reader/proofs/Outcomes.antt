-- The public function's contract determines its answer and what it leaves in the table lent.
-- Assumes nothing.
use Prim.Native.Nat.{ℕ}
use mathlib.Core.Path.{sym, ◌∙◌}
use mathlib.Core.List.{List}
use Rattle.base.specs.Determined.{Determined}
use Rattle.reader.proofs.read.Kinds as read-kinds
use Rattle.reader.proofs.read.Reads as read-reads
use Rattle.refusal.proofs.Laws.{answer_apart}

pub read_determined : Determined 2 read-kinds.ps read-kinds.r read-reads.Post (List ℕ) (λ κs e. e.1.1.0.now)
read_determined κs a z z' e e' p q = (answer_apart z z' (p.answer ∙ sym q.answer), p.table ∙ sym q.table)
