-- `ber::put_form` meets its contract.
use native.Mathlib.Omega.{arith}
use Rattle.ber.proofs.Putting.{number_without_room, number_puts}
use Rattle.ber.proofs.put_form.Goals as goal

pub returns-then-room-size : goal.returns-then-room-size
returns-then-room-size c = number_without_room _ _ _ _ (omega arith)

pub returns-then-room-size-2 : goal.returns-then-room-size-2
returns-then-room-size-2 c = number_without_room _ _ _ _ (omega arith)

pub returns : goal.returns
returns c = number_puts _ _ _ _ (omega arith) _ c.put.ensures
