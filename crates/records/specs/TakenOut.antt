-- Rows in words, each taken out singly, as a list of records.
use Rattle.std.specs.Prelude.{ℕ, zero, suc, ◌^◌, ◌<◌, ◌≡◌, List, [], ◌∷◌, length, get_or}
use Rattle.refusal.specs.Answer.{given}
use Rattle.tagset.specs.declared.TagSet.{TagSet}
use Rattle.rows.specs.declared.RowWords.{RowWords}
use Rattle.rows.specs.Taken.{row_says, row_at, content_of, row_taken_at}
use Rattle.rows.specs.declared.Row.{Row}
use Rattle.records.specs.Images.{none}

-- each element of the list is a word
pub record Words (w : List ℕ) : Type 0 where
  pub word : (i : ℕ) → get_or w i 0 < 2 ^ 64

-- the rows in the words w, each taken out with a buffer of room bytes, are the records rs
pub record TakenOut (K : TagSet) (room : ℕ) (w : List ℕ) (rs : List Row) : Type 0 where
  pub row : (k : ℕ) → k < length rs → row_taken_at K room (length rs) k w ≡ given (get_or rs k none)

-- the record that a row is taken out as
abbrev pub taken : RowWords → Row
taken r = record { tag = r.tag; content = content_of (row_says r) }

-- those of n rows, from the one numbered k on
unfoldable pub taken_from : ℕ → ℕ → List ℕ → List Row
taken_from k zero w = []
taken_from k (suc n) w = taken (row_at w k) ∷ taken_from (suc k) n w
