-- `ber::put_length` meets its contract.
use Rattle.ber.proofs.Forms.{length_one}
use Rattle.ber.proofs.put_length.Goals as goal

pub returns-then-x-lt128 : goal.returns-then-x-lt128
returns-then-x-lt128 c = rw (length_one _ c.if-x-lt128.true) c.put_short.ensures

pub returns : goal.returns
returns c = rw (← c.length_form.ensures) c.put_form.ensures
