use Prim.Native.Nat.{◌-◌}
use lib.ListN.{length}
use Rattle.packet.proofs.Judging.{Judges}
use Rattle.packet.proofs.judged.Given as goal

abbrev pub invariant-loop-here : goal.invariant-loop-here
invariant-loop-here l = Judges l.known l.packet l.from l.here l.seen

abbrev pub decreases-loop-here : goal.decreases-loop-here
decreases-loop-here l = length l.packet - l.here
