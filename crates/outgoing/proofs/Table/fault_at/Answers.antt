-- `outgoing::Table::fault_at` meets its contract.
use mathlib.Core.Path.{sym, ◌∙◌}
use Rattle.outgoing.specs.code.Staged.{row_fault}
use Rattle.outgoing.proofs.Table.fault_at.Goals as goal

pub returns-then-has : goal.returns-then-has
unfolding row_fault
returns-then-has c =
    let known = sym c.if-has.ensures in
    c.fault_of.ensures ∙ rw (c.of-shape.ensures, c.length_of.ensures, c.has-twice.ensures, known)

pub returns : goal.returns
unfolding row_fault
returns c = rw (← c.if-has.ensures)
