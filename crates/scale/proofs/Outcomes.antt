-- What an answer says tells any two answers apart, so each public function's contract determines its answer.
-- Assumes nothing.
use mathlib.Core.Path.{sym, ◌∙◌}
use Rattle.base.specs.Determined.{Answered}
use Rattle.refusal.proofs.Laws.{answer_apart}
use Rattle.scale.proofs.is_outside.Kinds as is-outside-kinds
use Rattle.scale.proofs.is_outside.Reads as is-outside-reads
use Rattle.scale.proofs.to_house.Kinds as to-house-kinds
use Rattle.scale.proofs.to_house.Reads as to-house-reads
use Rattle.scale.proofs.to_code.Kinds as to-code-kinds
use Rattle.scale.proofs.to_code.Reads as to-code-reads

pub is_outside_determined : Answered 0 is-outside-kinds.ps is-outside-kinds.r is-outside-reads.Post
is_outside_determined κs a z z' e e' p q = p ∙ sym q

pub to_house_determined : Answered 0 to-house-kinds.ps to-house-kinds.r to-house-reads.Post
to_house_determined κs a z z' e e' p q = answer_apart z z' (p ∙ sym q)

pub to_code_determined : Answered 0 to-code-kinds.ps to-code-kinds.r to-code-reads.Post
to_code_determined κs a z z' e e' p q = answer_apart z z' (p ∙ sym q)
