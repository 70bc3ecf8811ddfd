-- `listing::Table::size` meets its contract.
use native.Mathlib.Omega.{arith}
use native.Mathlib.Nat.{zero-add}
use lib.ListN.{length}
use mathlib.Core.Path.{ap, ◌∙◌}
use Rattle.listing.proofs.Rows.{lines_all, lines_few, lines_short, counted, all_counted}
use Rattle.listing.proofs.Table.size.Goals as goal

pub loop-n-init : goal.loop-n-init
loop-n-init c = zero-add _ ∙ ap length (lines_all _ _ _)

pub overflow_add-size : goal.overflow_add-size
overflow_add-size c =
    let l = c.args.self.now.listable in
    let t = c.args.self.now in
    omega (arith, counted _ _ c.loop-n.n t.count (omega arith) c.line.ensures c.size-size.ensures, lines_few _ _ _ l, lines_short _ _ _ l, l.small)

pub loop-n-preserved : goal.loop-n-preserved
loop-n-preserved c =
    let t = c.args.self.now in
    omega (arith, counted _ _ c.loop-n.n t.count (omega arith) c.line.ensures c.size-size.ensures)

pub returns : goal.returns
returns c = all_counted _ _ _ _ (omega arith) c.loop-n.invariant
