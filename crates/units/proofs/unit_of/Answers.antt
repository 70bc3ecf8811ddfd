-- `units::unit_of` meets its contract.
use Rattle.units.proofs.Laws.{by_sets}
use Rattle.units.proofs.unit_of.Goals as goal

pub returns-then-has : goal.returns-then-has
returns-then-has c = rw (← by_sets c.args.tag, ← c.has.ensures, c.if-has.true)

pub returns-then-has-2 : goal.returns-then-has-2
returns-then-has-2 c = rw (← by_sets c.args.tag, ← c.has.ensures, c.if-has.false, ← c.has-2.ensures, c.if-has-2.true)

pub returns-then-has-3 : goal.returns-then-has-3
returns-then-has-3 c =
    rw (← by_sets c.args.tag, ← c.has.ensures, c.if-has.false, ← c.has-2.ensures, c.if-has-2.false, ← c.has-3.ensures, c.if-has-3.true)

pub returns : goal.returns
returns c =
    rw (← by_sets c.args.tag, ← c.has.ensures, c.if-has.false, ← c.has-2.ensures, c.if-has-2.false, ← c.has-3.ensures, c.if-has-3.false)
    c.lone_unit.ensures
