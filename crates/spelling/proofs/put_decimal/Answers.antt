-- `spelling::put_decimal` meets its contract.
use mathlib.Core.Path.{refl}
use Rattle.base.proofs.Putting.{no_room}
use Rattle.spelling.proofs.Putting.{wrote_puts}
use Rattle.spelling.proofs.put_decimal.Goals as goal

pub returns-then-not-decimal_fits : goal.returns-then-not-decimal_fits
returns-then-not-decimal_fits c = no_room _ _ _ _ refl (c.decimal_fits.ensures.1 c.if-not-decimal_fits.true)

pub returns : goal.returns
returns c = wrote_puts c.write_decimal.ensures
