-- A number's digits in a base, the highest first.
use Rattle.std.specs.Prelude.{ℕ, zero, suc, ◌/◌, ◌%◌, ◌^◌, List, [], ◌∷◌}

-- the k lowest digits of x, each shown as a byte
abbrev pub digits_in : ℕ → (ℕ → ℕ) → ℕ → ℕ → List ℕ
digits_in base shown zero x = []
digits_in base shown (suc k) x = shown (x / base ^ k % base) ∷ digits_in base shown k x
