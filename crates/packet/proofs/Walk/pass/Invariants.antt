use Prim.Native.Nat.{◌-◌}
use lib.ListN.{length}
use Rattle.packet.specs.code.Passing.{set_of, fresh_at, kept_in, Going}
use Rattle.packet.proofs.Walk.pass.Given as goal

abbrev pub invariant-loop-passed : goal.invariant-loop-passed
invariant-loop-passed l = Going (set_of l.self.known.now) l.self.packet.now
    (fresh_at l.from l.initial.places (set_of l.initial.noted.present) (set_of l.initial.noted.withdrawn)) (kept_in l.passed l.places l.noted)

abbrev pub decreases-loop-passed : goal.decreases-loop-passed
decreases-loop-passed l = length l.self.packet.now - l.passed.here
