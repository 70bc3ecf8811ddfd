-- `spelling::decimal_fits` meets its contract.
use mathlib.Core.Path.{sym, ◌∙◌}
use native.Mathlib.Omega.{arith}
use Rattle.base.proofs.Cases.{clash}
use Rattle.spelling.proofs.Digits.{decimal_few}
use Rattle.spelling.proofs.decimal_fits.Goals as goal

pub returns-then-has_room : goal.returns-then-has_room
returns-then-has_room c = (λ e. omega (arith, decimal_few c.args.n, c.has_room.ensures.0 c.if-has_room.true), λ e. clash (sym c.if-has_room.true ∙ e))
