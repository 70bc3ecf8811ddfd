use Prim.Native.Nat.{◌-◌}
use lib.ListN.{length}
use Rattle.packet.specs.code.Passing.{set_of, kept_in, Going}
use Rattle.packet.proofs.Walk.pass_plain.Given as goal

abbrev pub invariant-loop-passed : goal.invariant-loop-passed
invariant-loop-passed l = Going (set_of l.self.known.now) l.self.packet.now
    (kept_in l.initial.passed l.initial.places l.initial.noted) (kept_in l.passed l.places l.noted)

abbrev pub decreases-loop-passed : goal.decreases-loop-passed
decreases-loop-passed l = length l.self.packet.now - l.passed.here
