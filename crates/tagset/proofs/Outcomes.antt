-- Each public function's contract determines its answer.
-- Assumes nothing.
use mathlib.Core.Path.{sym, ◌∙◌}
use Rattle.base.specs.Determined.{Answered}
use Rattle.tagset.proofs.has.Kinds as has-kinds
use Rattle.tagset.proofs.has.Reads as has-reads
use Rattle.tagset.proofs.with_tag.Kinds as with-tag-kinds
use Rattle.tagset.proofs.with_tag.Reads as with-tag-reads
use Rattle.tagset.proofs.is_within.Kinds as is-within-kinds
use Rattle.tagset.proofs.is_within.Reads as is-within-reads
use Rattle.tagset.proofs.size_of.Kinds as size-of-kinds
use Rattle.tagset.proofs.size_of.Reads as size-of-reads
use Rattle.tagset.proofs.meet_of.Kinds as meet-of-kinds
use Rattle.tagset.proofs.meet_of.Reads as meet-of-reads
use Rattle.tagset.proofs.is_same.Kinds as is-same-kinds
use Rattle.tagset.proofs.is_same.Reads as is-same-reads

pub has_determined : Answered 0 has-kinds.ps has-kinds.r has-reads.Post
has_determined κs a z z' e e' p q = p ∙ sym q

pub is_within_determined : Answered 0 is-within-kinds.ps is-within-kinds.r is-within-reads.Post
is_within_determined κs a z z' e e' p q = p ∙ sym q

pub with_tag_determined : Answered 0 with-tag-kinds.ps with-tag-kinds.r with-tag-reads.Post
with_tag_determined κs a z z' e e' p q = p ∙ sym q

pub size_of_determined : Answered 0 size-of-kinds.ps size-of-kinds.r size-of-reads.Post
size_of_determined κs a z z' e e' p q = p ∙ sym q

pub meet_of_determined : Answered 0 meet-of-kinds.ps meet-of-kinds.r meet-of-reads.Post
meet_of_determined κs a z z' e e' p q = p ∙ sym q

pub is_same_determined : Answered 0 is-same-kinds.ps is-same-kinds.r is-same-reads.Post
is_same_determined κs a z z' e e' p q = p ∙ sym q
