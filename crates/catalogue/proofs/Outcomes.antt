-- Each public function's contract determines its answer.
-- Assumes nothing.
use mathlib.Core.Path.{sym, ◌∙◌}
use Rattle.base.specs.Determined.{Answered}
use Rattle.catalogue.proofs.Columns.{shapes_apart, masks_apart}
use Rattle.catalogue.proofs.all_tags.Kinds as all-tags-kinds
use Rattle.catalogue.proofs.all_tags.Reads as all-tags-reads
use Rattle.catalogue.proofs.ShapeColumn.of.Kinds as of-kinds
use Rattle.catalogue.proofs.ShapeColumn.of.Reads as of-reads
use Rattle.catalogue.proofs.shapes.Kinds as shapes-kinds
use Rattle.catalogue.proofs.shapes.Reads as shapes-reads
use Rattle.catalogue.proofs.length_masks.Kinds as length-masks-kinds
use Rattle.catalogue.proofs.length_masks.Reads as length-masks-reads
use Rattle.catalogue.proofs.shape_at.Kinds as shape-at-kinds
use Rattle.catalogue.proofs.shape_at.Reads as shape-at-reads
use Rattle.catalogue.proofs.allows_length.Kinds as allows-length-kinds
use Rattle.catalogue.proofs.allows_length.Reads as allows-length-reads
use Rattle.catalogue.proofs.is_empty.Kinds as is-empty-kinds
use Rattle.catalogue.proofs.is_empty.Reads as is-empty-reads
use Rattle.catalogue.proofs.is_needed.Kinds as is-needed-kinds
use Rattle.catalogue.proofs.is_needed.Reads as is-needed-reads
use Rattle.catalogue.proofs.allows_size.Kinds as allows-size-kinds
use Rattle.catalogue.proofs.allows_size.Reads as allows-size-reads
use Rattle.catalogue.proofs.is_extended.Kinds as is-extended-kinds
use Rattle.catalogue.proofs.is_extended.Reads as is-extended-reads
use Rattle.catalogue.proofs.is_in_reach.Kinds as is-in-reach-kinds
use Rattle.catalogue.proofs.is_in_reach.Reads as is-in-reach-reads
use Rattle.catalogue.proofs.limits_codes.Kinds as limits-codes-kinds
use Rattle.catalogue.proofs.limits_codes.Reads as limits-codes-reads
use Rattle.catalogue.proofs.allows_code.Kinds as allows-code-kinds
use Rattle.catalogue.proofs.allows_code.Reads as allows-code-reads

pub all_tags_determined : Answered 0 all-tags-kinds.ps all-tags-kinds.r all-tags-reads.Post
all_tags_determined κs a z z' e e' p q = p ∙ sym q

pub shapes_determined : Answered 0 shapes-kinds.ps shapes-kinds.r shapes-reads.Post
shapes_determined κs a z z' e e' p q = shapes_apart z z' (p ∙ sym q)

pub of_determined : Answered 1 of-kinds.ps of-kinds.r of-reads.Post
of_determined κs a z z' e e' p q = p ∙ sym q

pub length_masks_determined : Answered 0 length-masks-kinds.ps length-masks-kinds.r length-masks-reads.Post
length_masks_determined κs a z z' e e' p q = masks_apart z z' (p ∙ sym q)

pub shape_at_determined : Answered 1 shape-at-kinds.ps shape-at-kinds.r shape-at-reads.Post
shape_at_determined κs a z z' e e' p q = p ∙ sym q

pub allows_length_determined : Answered 0 allows-length-kinds.ps allows-length-kinds.r allows-length-reads.Post
allows_length_determined κs a z z' e e' p q = p ∙ sym q

pub is_empty_determined : Answered 0 is-empty-kinds.ps is-empty-kinds.r is-empty-reads.Post
is_empty_determined κs a z z' e e' p q = p ∙ sym q

pub is_needed_determined : Answered 0 is-needed-kinds.ps is-needed-kinds.r is-needed-reads.Post
is_needed_determined κs a z z' e e' p q = p ∙ sym q

pub allows_size_determined : Answered 0 allows-size-kinds.ps allows-size-kinds.r allows-size-reads.Post
allows_size_determined κs a z z' e e' p q = p ∙ sym q

pub allows_code_determined : Answered 0 allows-code-kinds.ps allows-code-kinds.r allows-code-reads.Post
allows_code_determined κs a z z' e e' p q = p ∙ sym q

pub limits_codes_determined : Answered 0 limits-codes-kinds.ps limits-codes-kinds.r limits-codes-reads.Post
limits_codes_determined κs a z z' e e' p q = p ∙ sym q

pub is_extended_determined : Answered 0 is-extended-kinds.ps is-extended-kinds.r is-extended-reads.Post
is_extended_determined κs a z z' e e' p q = p ∙ sym q

pub is_in_reach_determined : Answered 0 is-in-reach-kinds.ps is-in-reach-kinds.r is-in-reach-reads.Post
is_in_reach_determined κs a z z' e e' p q = p ∙ sym q
