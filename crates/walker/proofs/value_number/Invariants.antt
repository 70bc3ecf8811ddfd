-- The walker keeps the packet and the set, and stands at the item of the number that the loop has reached.
use Rattle.std.proofs.Common.{◌≡◌}
use Rattle.walker.specs.Steps.{place_number}
use Rattle.walker.proofs.value_number.Given as goal

abbrev pub invariant-loop : goal.invariant-loop
invariant-loop l =
    (l.w.packet.now ≡ l.packet) × (l.w.known ≡ l.fn.known) × (l.w.at ≡ place_number l.fn.known l.packet l.counter)
