-- The public function's contract determines its answer.
-- Assumes nothing.
use mathlib.Core.Path.{sym, ◌∙◌}
use Rattle.base.specs.Determined.{Answered}
use Rattle.knowing.proofs.is_good.Kinds as is-good-kinds
use Rattle.knowing.proofs.is_good.Reads as is-good-reads

pub is_good_determined : Answered 0 is-good-kinds.ps is-good-kinds.r is-good-reads.Post
is_good_determined κs a z z' e e' p q = p ∙ sym q
