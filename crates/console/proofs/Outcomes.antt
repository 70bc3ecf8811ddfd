-- Each public function that answers has a contract that determines its answer.
-- Assumes nothing.
use mathlib.Core.Path.{sym, ◌∙◌}
use Rattle.base.specs.Determined.{Answered}
use Rattle.console.proofs.digit.Kinds as digit-kinds
use Rattle.console.proofs.digit.Reads as digit-reads
use Rattle.console.proofs.word_of.Kinds as word-of-kinds
use Rattle.console.proofs.word_of.Reads as word-of-reads

pub digit_determined : Answered 0 digit-kinds.ps digit-kinds.r digit-reads.Post
digit_determined κs a z z' e e' p q = p ∙ sym q

pub word_of_determined : Answered 1 word-of-kinds.ps word-of-kinds.r word-of-reads.Post
word_of_determined κs a z z' e e' p q = p ∙ sym q
