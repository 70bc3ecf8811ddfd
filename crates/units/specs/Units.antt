-- The numbers by which units go outside of the code, 0 for none. House units are 10^-7 degree; thousandths of a metre, of a metre a second,
-- of a mbar, of a percent and of a degree C; item 2's code counts microseconds.
use Rattle.std.specs.Prelude.{ℕ}
use Rattle.catalogue.specs.declared.Unit.{Unit}
use Rattle.catalogue.specs.declared.Unit.TheVariants.{None, Degree, Metre, MetrePerSecond, Millibar, Percent, Celsius, Microsecond}

abbrev pub unit_number : Unit → ℕ
unit_number None = 0
unit_number Degree = 1
unit_number Metre = 2
unit_number MetrePerSecond = 3
unit_number Millibar = 4
unit_number Percent = 5
unit_number Celsius = 6
unit_number Microsecond = 7
