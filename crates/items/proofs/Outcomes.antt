-- The public function's contract determines its answer.
-- Assumes nothing.
use mathlib.Core.Path.{sym, ◌∙◌}
use Rattle.base.specs.Determined.{Answered}
use Rattle.items.proofs.item_of.Kinds as item-of-kinds
use Rattle.items.proofs.item_of.Reads as item-of-reads

pub item_of_determined : Answered 0 item-of-kinds.ps item-of-kinds.r item-of-reads.Post
item_of_determined κs a z z' e e' p q = p ∙ sym q
