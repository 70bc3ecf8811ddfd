-- `listing::Table::put_lines` meets its contract.
use borrow.Author.Rules.{rules}
use native.Mathlib.Omega.{arith}
use mathlib.Core.Path.{refl, ◌∙◌}
use Rattle.base.proofs.Putting.{to_write}
use Rattle.listing.proofs.Rows.{none_written, line_room, written, all_written}
use Rattle.listing.proofs.Table.put_lines.Goals as goal

pub loop-n-init : goal.loop-n-init
loop-n-init c = (refl, none_written _ _ _ c.requires)

pub put-requires : goal.put-requires
put-requires c = line_room _ _ _ _ (omega arith) c.line.ensures c.loop-n.invariant.1

pub loop-n-preserved : goal.loop-n-preserved
loop-n-preserved c = (c.put.ensures.same ∙ c.loop-n.invariant.0, written _ _ _ _ (omega arith) c.line.ensures c.loop-n.invariant.1 c.put.ensures.wrote)

pub returns : goal.returns
returns c =
    let done = all_written _ _ _ _ (omega arith) c.loop-n.invariant.1 in
    record { same = search rules; wrote = rw (← done.0, ← done.1) (to_write c.requires) }
