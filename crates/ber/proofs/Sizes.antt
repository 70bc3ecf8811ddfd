-- The value of at most four bytes is below 2 ^ 32.
-- Assumes nothing.
use Prim.Native.Nat.{ℕ, ◌^◌, ◌<◌, ◌≤◌}
use native.Mathlib.Omega.{arith}
use native.Mathlib.Nat.{pow-le-pow_right, lt_of_lt_of_le}
use mathlib.Core.List.{List}
use lib.ListN.{length, take, length-take}
use Rattle.number.specs.Stored.{Bytes, value_of}
use Rattle.number.proofs.Laws.{bytes_take, value_small}

module _ (l : List ℕ) (by : Bytes l) (n : ℕ) (few : n ≤ 4) where
  pub value_four : value_of (take n l) < 2 ^ 32
  value_four =
      lt_of_lt_of_le (value_small (take n l) (bytes_take n l by))
      (pow-le-pow_right {n = 256} (omega arith) {i = length (take n l)} {j = 4} (rw length-take (omega arith)))
