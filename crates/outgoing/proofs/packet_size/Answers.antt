-- `outgoing::packet_size` meets its contract.
use native.Mathlib.Omega.{arith}
use Rattle.ber.proofs.Laws.{sized}
use Rattle.outgoing.proofs.packet_size.Goals as goal

pub overflow_add-size : goal.overflow_add-size
overflow_add-size c = omega (arith, c.length_size.ensures, (sized c.args.items c.requires).most)

pub overflow_add-size-2 : goal.overflow_add-size-2
overflow_add-size-2 c = omega (arith, c.length_size.ensures, (sized c.args.items c.requires).most)

pub returns : goal.returns
returns c = rw c.length_size.ensures
