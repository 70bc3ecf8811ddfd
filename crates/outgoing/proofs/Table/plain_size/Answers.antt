-- `outgoing::Table::plain_size` meets its contract.
use mathlib.Core.Path.{refl, sym}
use Rattle.outgoing.proofs.Glanced.{known_some, carried_plain}
use Rattle.outgoing.proofs.Table.plain_size.Goals as goal

pub returns-then-length_of-eq0 : goal.returns-then-length_of-eq0
returns-then-length_of-eq0 c = known_some _ _ _ _ _ c.of.ensures (sym c.if-not-has.ensures) (sym c.if-has.ensures) _ c.known_size.ensures

pub returns-then-is_extended : goal.returns-then-is_extended
returns-then-is_extended c = known_some _ _ _ _ _ refl (sym c.if-not-has.ensures) (sym c.if-has.ensures) _ (c.height_size.ensures _)

pub returns-in-Number : goal.returns-in-Number
returns-in-Number c = known_some _ _ _ _ _ c.of-shape.ensures (sym c.if-not-has.ensures) (sym c.if-has.ensures) _ c.value_size.ensures

pub returns-in-Text : goal.returns-in-Text
returns-in-Text c = known_some _ _ _ _ _ c.of-shape.ensures (sym c.if-not-has.ensures) (sym c.if-has.ensures) _ c.known_size-in-Text.ensures

pub returns-then-is_good_value_row : goal.returns-then-is_good_value_row
returns-then-is_good_value_row c = carried_plain _ _ _ _ (sym c.if-not-has.ensures) (sym c.if-is_good_value_row.ensures) c.row_size.ensures
