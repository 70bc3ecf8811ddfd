-- `spelling::put_minus` meets its contract.
use native.Mathlib.Omega.{arith}
use Rattle.spelling.proofs.Putting.{minus_short, minus_wrote, wrote_puts}
use Rattle.spelling.proofs.put_minus.Goals as goal
use Rattle.spelling.proofs.put_minus.Goals.{then-out-at-via-then-out-at, then-out-at-via-else-out-at+then-not-decimal_fits}

pub returns-then-out-at : goal.returns-then-out-at
returns-then-out-at c =
    elim c.then-out-at.branch [
      | then-out-at-via-then-out-at w ↦ minus_short _ _ _ (omega (arith, w.if-out-at.true))
      | then-out-at-via-else-out-at+then-not-decimal_fits w ↦ minus_short _ _ _ (w.decimal_fits.ensures.1 w.if-not-decimal_fits.true)
    ]

pub returns : goal.returns
returns c = wrote_puts (minus_wrote _ c.if-out-at.false c.write_decimal.ensures)
