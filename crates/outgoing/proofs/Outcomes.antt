-- The public function's contract determines its answer.
-- Assumes nothing.
use mathlib.Core.Path.{sym, ◌∙◌}
use Rattle.base.specs.Determined.{Answered}
use Rattle.refusal.proofs.Laws.{answer_apart}
use Rattle.outgoing.proofs.check_rows.Kinds as check-rows-kinds
use Rattle.outgoing.proofs.check_rows.Reads as check-rows-reads

pub check_rows_determined : Answered 2 check-rows-kinds.ps check-rows-kinds.r check-rows-reads.Post
check_rows_determined κs a z z' e e' p q = answer_apart z z' (p ∙ sym q)
