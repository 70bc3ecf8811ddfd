-- `packet::passed_from` meets its contract: what the walk goes by holds of a packet whose items begin there.
use mathlib.Core.Path.{refl}
use native.Mathlib.Omega.{arith}
use Rattle.number.proofs.Laws.{bytes_lent}
use Rattle.packet.proofs.passed_from.Goals as goal

pub invariant_of-walk : goal.invariant_of-walk
invariant_of-walk c =
    record {
      bytes = bytes_lent c.type_inv.packet;
      some = c.requires.some;
      short = c.requires.short;
      words = record { both = refl; low = omega arith; high = omega arith };
      knows = c.requires.known;
    }
