-- The shadow of the code, not to be believed but proved to be what document 01's definitions give: an accepted packet
-- sent on.
use Rattle.std.specs.Prelude.{ℕ, ◌+◌, ◌≤◌, ◌≡◌, cond, List, ◌++◌, ltb, length, drop, Result}
use Rattle.refusal.specs.Answer.{Answer, given, refused, answer_said}
use Rattle.packet.specs.Structure.{structure, ItemsFrom}
use Rattle.packet.specs.Encode.{pieces_in, items_bytes, canonical}
use Rattle.writer.specs.declared.Written.{Written}
use Rattle.refusal.specs.declared.Refusal.{Refusal}

-- the items of a packet, as they are sent on
abbrev pub items_for : List ℕ → List ℕ
items_for p = items_bytes (pieces_in (structure p))

-- a packet of right structure whose items begin at a place, and have so many bytes more than as they are sent on
pub record LongerBy (p : List ℕ) (from longer : ℕ) : Type 0 where
  pub walks : ItemsFrom p from
  pub sizes : from + (length (items_for p) + longer) ≡ length p

-- all that is sent on has so many bytes, so many of them the items', and there is room for it
pub record Sendable (p : List ℕ) (from size items room : ℕ) : Type 0 where
  pub walks : ItemsFrom p from
  pub whole : size ≡ length (canonical p)
  pub part : items ≡ length (items_for p)
  pub fits : size ≤ room

-- bytes q sent: their number, or 18
abbrev pub sent_answer : List ℕ → List ℕ → Answer Written
sent_answer q o = cond (ltb (length o) (length q)) (refused 18 0 0) (given (record { size = length q }))

-- at the front of the output, where there is room for them
abbrev pub sent_output : List ℕ → List ℕ → List ℕ
sent_output q o = cond (ltb (length o) (length q)) o (q ++ drop (length q) o)

pub record Sends (q o : List ℕ) (r : Result Written Refusal) (o' : List ℕ) : Type 0 where
  pub answer : answer_said r ≡ sent_answer q o
  pub output : o' ≡ sent_output q o
