-- Document 01's formula over whole numbers, with nothing lost: by how much a value misses what the formula gives for a code.
use Rattle.std.specs.Prelude.{ℕ, ℤ, pos, nat_abs, ◌-ℤ◌, ◌*ℤ◌}
use Rattle.catalogue.specs.declared.Item.{Item}
use Rattle.scale.specs.Scales.{origin, reach, steps, code_below, code_far, side}

-- the number that a stored code stands for, in two's complement where the item is signed
abbrev pub number_of : Item → ℕ → ℤ
number_of i code = side (code_below i code) (code_far i code)

-- |value - (origin + number × reach / steps)|, times steps: the miss in parts of which so many as steps are one house unit
unfoldable pub miss : Item → ℕ → ℤ → ℕ
miss i code value = nat_abs ((value -ℤ origin i) *ℤ pos (steps i) -ℤ number_of i code *ℤ pos (reach i))
