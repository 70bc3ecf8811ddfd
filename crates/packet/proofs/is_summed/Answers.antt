-- `packet::is_summed` meets its contract.
use mathlib.Core.Path.{ap₂}
use lib.Dec.{eqb}
use Rattle.number.proofs.Laws.{bytes_lent}
use Rattle.packet.proofs.Closing.{two-bytes}
use Rattle.packet.proofs.is_summed.Goals as goal

pub returns : goal.returns
returns c = ap₂ eqb (two-bytes _ _ (bytes_lent c.type_inv.packet) c.requires _ c.value-stored.ensures) c.checksum-sum.ensures
