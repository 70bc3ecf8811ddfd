-- The public function's contract determines its answer.
-- Assumes nothing.
use Rattle.std.proofs.Common.{sym, ◌∙◌}
use Rattle.base.specs.Determined.{Answered}
use Rattle.checksum.proofs.checksum.Kinds as checksum-kinds
use Rattle.checksum.proofs.checksum.Reads as checksum-reads

pub checksum_determined : Answered 1 checksum-kinds.ps checksum-kinds.r checksum-reads.Post
checksum_determined κs a z z' e e' p q = p ∙ sym q
