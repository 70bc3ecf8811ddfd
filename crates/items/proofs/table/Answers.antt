-- `items::table` meets its contract.
use mathlib.Core.Path.{refl}
use Rattle.catalogue.specs.Items.{groups, member, item_in, item_of}
use Rattle.catalogue.specs.Rows.{rows_from, rows}
use Rattle.items.proofs.table.Goals as goal

pub returns : goal.returns
unfolding groups member item_in item_of rows_from rows
returns c = refl
