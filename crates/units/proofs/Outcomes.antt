-- Each public function's contract determines its answer.
-- Assumes nothing.
use mathlib.Core.Path.{sym, ◌∙◌}
use Rattle.base.specs.Determined.{Answered}
use Rattle.units.proofs.unit_of.Kinds as unit-of-kinds
use Rattle.units.proofs.unit_of.Reads as unit-of-reads
use Rattle.units.proofs.number_of.Kinds as number-of-kinds
use Rattle.units.proofs.number_of.Reads as number-of-reads

pub unit_of_determined : Answered 0 unit-of-kinds.ps unit-of-kinds.r unit-of-reads.Post
unit_of_determined κs a z z' e e' p q = p ∙ sym q

pub number_of_determined : Answered 0 number-of-kinds.ps number-of-kinds.r number-of-reads.Post
number_of_determined κs a z z' e e' p q = p ∙ sym q
