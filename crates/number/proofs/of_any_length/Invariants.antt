use mathlib.Core.Path.{◌≡◌}
use Prim.Native.Nat.{◌%◌, ◌^◌}
use lib.ListN.{drop}
use Rattle.number.specs.Stored.{value_from, value_of}
use Rattle.number.proofs.of_any_length.Given as goal

abbrev pub invariant-loop-b : goal.invariant-loop-b
invariant-loop-b l = value_from l.v (drop l.b-index l.s) % 2 ^ 64 ≡ value_of l.s % 2 ^ 64
