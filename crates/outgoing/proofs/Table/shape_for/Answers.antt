-- `outgoing::Table::shape_for` meets its contract.
use mathlib.Core.Path.{◌∙◌}
use Rattle.tagset.specs.Sets.{holds}
use Rattle.rows.proofs.Laws.{shape_by_column}
use Rattle.outgoing.proofs.Table.shape_for.Goals as goal

pub returns : goal.returns
returns c =
    let t = c.args.self.now in
    c.shape_for.ensures ∙ shape_by_column (holds t.known) _ c.args.tag t.shapes.now.of_the_catalogue
