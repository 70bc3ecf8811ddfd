-- The forms that a length may have: "A long form that could be shorter is accepted."
use Rattle.std.specs.Prelude.{ℕ, ◌+◌, ◌<◌, List, [], ◌∷◌, length}
use Rattle.number.specs.Stored.{value_of}

pub data LengthForm : ℕ → List ℕ → Type 0 where
  short_form : {x : ℕ} → x < 128 → LengthForm x (x ∷ [])
  long_form : (ds : List ℕ) → 0 < length ds → length ds < 5 → LengthForm (value_of ds) ((128 + length ds) ∷ ds)
