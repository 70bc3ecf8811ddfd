-- Document 01, Catalogue: "Numbers are stored highest byte first."
use Rattle.std.specs.Prelude.{ℕ, ◌+◌, ◌*◌, ◌<◌, List, [], ◌∷◌, get_or}
use Rattle.base.specs.Digits.{digits_in}

-- each element of the list is a byte
pub record Bytes (l : List ℕ) : Type 0 where
  pub byte : (i : ℕ) → get_or l i 0 < 256

-- h is what the bytes before say
unfoldable pub value_from : ℕ → List ℕ → ℕ
value_from h [] = h
value_from h (a ∷ l) = value_from (h * 256 + a) l

abbrev pub value_of : List ℕ → ℕ
value_of l = value_from 0 l

-- the n lowest bytes of x: its digits in base 256
unfoldable pub bytes_of : ℕ → ℕ → List ℕ
bytes_of n x = digits_in 256 (λ d. d) n x
