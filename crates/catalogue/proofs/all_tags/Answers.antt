-- `catalogue::all_tags` meets its contract.
use mathlib.Core.Path.{refl}
use Rattle.catalogue.specs.Items.{groups, member, item_in, item_of}
use Rattle.catalogue.specs.Rows.{rows_from, rows, all_tags}
use Rattle.catalogue.proofs.all_tags.Goals as goal

pub returns : goal.returns
unfolding groups member item_in item_of rows_from rows all_tags
returns c = refl
