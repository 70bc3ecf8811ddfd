use Prim.Native.Nat.{◌+◌, ◌-◌}
use lib.ListN.{length}
use Rattle.base.specs.Putting.{put_into}
use Rattle.relay.specs.code.Sends.{items_for}
use Rattle.relay.proofs.Items.{Waiting}
use Rattle.relay.proofs.put_items.Given as goal

abbrev pub invariant-loop-item : goal.invariant-loop-item
invariant-loop-item l =
    Waiting l.packet l.here l.out l.at (l.start + length (items_for l.packet)) (put_into l.initial.out l.start (items_for l.packet))

abbrev pub decreases-loop-item : goal.decreases-loop-item
decreases-loop-item l = length l.packet - l.here
