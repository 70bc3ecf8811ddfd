use Rattle.std.proofs.Common.{◌≡◌, ◌+◌, ◌*◌, ◌%◌, drop}
use Rattle.checksum.specs.Sum.{weighed}
use Rattle.checksum.proofs.from_odd.Given as goal

abbrev pub invariant-loop-pair : goal.invariant-loop-pair
invariant-loop-pair l = (l.sum + weighed 1 (drop (2 * l.pair-index) l.s)) % 65536 ≡ weighed 1 l.s % 65536
