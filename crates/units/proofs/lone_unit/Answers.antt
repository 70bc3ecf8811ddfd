-- `units::lone_unit` meets its contract.
use Rattle.base.proofs.Cases.{cases}
use Rattle.units.specs.code.BySets.{lone_unit}
use Rattle.units.proofs.lone_unit.Goals as goal

pub returns-in-2 : goal.returns-in-2
unfolding lone_unit
returns-in-2 c = search cases

pub returns-in-37 : goal.returns-in-37
unfolding lone_unit
returns-in-37 c = search cases

pub returns-in-39 : goal.returns-in-39
unfolding lone_unit
returns-in-39 c = search cases

pub returns-in-55 : goal.returns-in-55
unfolding lone_unit
returns-in-55 c = search cases

pub returns-in_default : goal.returns-in_default
unfolding lone_unit
returns-in_default c = search cases
