-- Each public function's contract determines its answer.
-- Assumes nothing.
use mathlib.Core.Path.{sym, ◌∙◌}
use Rattle.base.specs.Determined.{Answered}
use Rattle.rows.proofs.kind_of.Kinds as kind-of-kinds
use Rattle.rows.proofs.kind_of.Reads as kind-of-reads
use Rattle.rows.proofs.shape_for.Kinds as shape-for-kinds
use Rattle.rows.proofs.shape_for.Reads as shape-for-reads
use Rattle.rows.proofs.is_good_row.Kinds as is-good-row-kinds
use Rattle.rows.proofs.is_good_row.Reads as is-good-row-reads
use Rattle.rows.proofs.is_good_value_row.Kinds as is-good-value-row-kinds
use Rattle.rows.proofs.is_good_value_row.Reads as is-good-value-row-reads
use Rattle.rows.proofs.is_good_count.Kinds as is-good-count-kinds
use Rattle.rows.proofs.is_good_count.Reads as is-good-count-reads
use Rattle.rows.proofs.tag_shown.Kinds as tag-shown-kinds
use Rattle.rows.proofs.tag_shown.Reads as tag-shown-reads
use Rattle.rows.proofs.row_at.Kinds as row-at-kinds
use Rattle.rows.proofs.row_at.Reads as row-at-reads
use Rattle.rows.proofs.content_of.Kinds as content-of-kinds
use Rattle.rows.proofs.content_of.Reads as content-of-reads
use Rattle.rows.proofs.take_row.Kinds as take-row-kinds
use Rattle.rows.proofs.take_row.Reads as take-row-reads
use Rattle.refusal.proofs.Laws.{answer_apart}

pub kind_of_determined : Answered 0 kind-of-kinds.ps kind-of-kinds.r kind-of-reads.Post
kind_of_determined κs a z z' e e' p q = p ∙ sym q

pub shape_for_determined : Answered 1 shape-for-kinds.ps shape-for-kinds.r shape-for-reads.Post
shape_for_determined κs a z z' e e' p q = p ∙ sym q

pub is_good_row_determined : Answered 0 is-good-row-kinds.ps is-good-row-kinds.r is-good-row-reads.Post
is_good_row_determined κs a z z' e e' p q = p ∙ sym q

pub is_good_value_row_determined : Answered 0 is-good-value-row-kinds.ps is-good-value-row-kinds.r is-good-value-row-reads.Post
is_good_value_row_determined κs a z z' e e' p q = p ∙ sym q

pub is_good_count_determined : Answered 0 is-good-count-kinds.ps is-good-count-kinds.r is-good-count-reads.Post
is_good_count_determined κs a z z' e e' p q = p ∙ sym q

pub tag_shown_determined : Answered 0 tag-shown-kinds.ps tag-shown-kinds.r tag-shown-reads.Post
tag_shown_determined κs a z z' e e' p q = p ∙ sym q

pub row_at_determined : Answered 1 row-at-kinds.ps row-at-kinds.r row-at-reads.Post
row_at_determined κs a z z' e e' p q = p ∙ sym q

pub content_of_determined : Answered 0 content-of-kinds.ps content-of-kinds.r content-of-reads.Post
content_of_determined κs a z z' e e' p q = p ∙ sym q

pub take_row_determined : Answered 2 take-row-kinds.ps take-row-kinds.r take-row-reads.Post
take_row_determined κs a z z' e e' p q = answer_apart z z' (p ∙ sym q)
