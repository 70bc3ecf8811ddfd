-- `catalogue::length_masks` meets its contract.
use mathlib.Core.Path.{refl}
use Rattle.catalogue.specs.Items.{groups, member, item_in, item_of}
use Rattle.catalogue.specs.Extended.{is_extended}
use Rattle.catalogue.specs.Shapes.{shape_of}
use Rattle.catalogue.specs.code.Column.{column_from, mask_column}
use Rattle.catalogue.proofs.length_masks.Goals as goal

pub invariant_of-result : goal.invariant_of-result
unfolding groups member item_in item_of is_extended shape_of column_from mask_column
invariant_of-result c = record { of_the_catalogue = refl }

pub returns : goal.returns
unfolding groups member item_in item_of is_extended shape_of column_from mask_column
returns c = refl
