-- `catalogue::ShapeColumn::of` meets its contract.
use mathlib.Core.Path.{ap, ◌∙◌}
use Rattle.catalogue.specs.code.Column.{shape_in}
use Rattle.catalogue.proofs.Columns.{shape_in_column}
use Rattle.catalogue.proofs.ShapeColumn.of.Goals as goal

pub returns : goal.returns
returns c = c.shape_at.ensures ∙ (ap (λ l. shape_in l c.args.tag) c.args.self.now.of_the_catalogue ∙ shape_in_column c.args.tag)
