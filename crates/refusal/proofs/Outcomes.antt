-- Each public function's contract determines its answer: any two that it allows are equal.
-- Assumes nothing.
use mathlib.Core.Path.{sym, ◌∙◌}
use Rattle.refusal.proofs.number_of.Kinds as kinds
use Rattle.refusal.proofs.number_of.Reads as reads
use denote.RattleType.{RattleType}
use Rattle.base.specs.Determined.{Answered}
use denote.Param.Laws.{Laws}
use Rattle.refusal.proofs.Laws.{answer_apart}
use Rattle.refusal.proofs.refused.Kinds as refused-kinds
use Rattle.refusal.proofs.refused.Reads as refused-reads

pub number_of_determined : Answered 0 kinds.ps kinds.r reads.Post
number_of_determined κs a z z' e e' p q = p ∙ sym q

-- of any type
pub refused_determined : (T : RattleType) (laws : Laws T) → Answered 1 (refused-kinds.ps T laws) (refused-kinds.r T laws) (refused-reads.Post T laws)
refused_determined T laws κs a z z' e e' p q = answer_apart z z' (p ∙ sym q)
