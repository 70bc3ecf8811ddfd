-- `records::image_of` meets its contract.
use mathlib.Core.Path.{◌∙◌}
use Rattle.records.proofs.Laws.{width_small, image_by}
use Rattle.records.proofs.image_of.Goals as goal

pub mark_code-code-requires : goal.mark_code-code-requires
mark_code-code-requires c = rw c.width_of-length.ensures (width_small _)

pub returns-in-Reading : goal.returns-in-Reading
returns-in-Reading c = c.row_with.ensures ∙ image_by _ _ c.in-Reading.is

pub returns-in-Mark : goal.returns-in-Mark
returns-in-Mark c =
    c.row_with-in-Mark.ensures
    ∙ rw (c.mark_code-code.ensures, c.width_of-length.ensures) (image_by _ _ c.in-Mark.is)

pub returns-in-Text : goal.returns-in-Text
returns-in-Text c = c.row_with-in-Text.ensures ∙ image_by _ _ c.in-Text.is

pub returns-in-Carried : goal.returns-in-Carried
returns-in-Carried c = c.row_with-in-Carried.ensures ∙ image_by _ _ c.in-Carried.is

pub returns-in-Withdrawn : goal.returns-in-Withdrawn
returns-in-Withdrawn c = c.row_with-in-Withdrawn.ensures ∙ image_by _ _ c.in-Withdrawn.is
