-- `listing::Table::line` meets its contract.
use Rattle.listing.proofs.Rows.{line_inside}
use Rattle.listing.proofs.Table.line.Goals as goal

pub invariant_of-result : goal.invariant_of-result
invariant_of-result c =
    record { inside = line_inside _ _ _ c.args.self.now.listable _ c.requires c.row_at.ensures }
