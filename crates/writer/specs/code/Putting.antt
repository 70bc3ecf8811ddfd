-- The shadow of the code, not to be believed but proved to be what document 01's definitions give: what the writer puts
-- into the output. A row that is not bad says by its kind what its value is, whatever the receiver knows.
use Rattle.std.specs.Prelude.{ℕ, ◌+◌, ◌<◌, ◌≤◌, ◌≡◌, cond, List, [], ◌∷◌, ltb, length}
use Rattle.base.specs.Every.{Each}
use Rattle.number.specs.Stored.{bytes_of}
use Rattle.rows.specs.Meaning.{text_kind}
use Rattle.rows.specs.declared.RowWords.{RowWords}
use Rattle.rows.specs.Taken.{part_place, part_length}
use Rattle.packet.specs.Pieces.{Piece}
use Rattle.packet.specs.Encode.{items_bytes, encode}
use Rattle.packet.specs.Rows.{rows_in, bytes_at}

-- the value by the kind: the bytes of the code, or those that the row points at
abbrev pub value_said : List ℕ → RowWords → List ℕ
value_said b r = cond (ltb r.kind text_kind) (bytes_of (part_length r.part) r.code) (bytes_at b r)

abbrev pub piece_said : List ℕ → RowWords → Piece
piece_said b r = record { tag = r.tag; value = value_said b r }

unfoldable pub pieces_said : List ℕ → List RowWords → List Piece
pieces_said b [] = []
pieces_said b (r ∷ rs) = piece_said b r ∷ pieces_said b rs

-- the pieces of count rows in lent words
abbrev pub table_pieces : List ℕ → ℕ → List ℕ → List Piece
table_pieces b count words = pieces_said b (rows_in 0 count words)

abbrev pub table_bytes : List ℕ → ℕ → List ℕ → List ℕ
table_bytes b count words = items_bytes (table_pieces b count words)

-- a row that can be put: it has a tag, and what it points at lies in the buffer, if it points at anything (W-204: a withdrawn row does not)
pub record CanPut (b : List ℕ) (r : RowWords) : Type 0 where
  pub tagged : 0 < r.tag
  pub inside : text_kind ≤ r.kind → 0 < part_length r.part → part_place r.part + part_length r.part ≤ length b

-- such rows in lent words
pub record Rows (b : List ℕ) (count : ℕ) (words : List ℕ) : Type 0 where
  pub few : count ≤ 128
  pub good : Each (CanPut b) (rows_in 0 count words)

-- rows that make a packet of so many bytes, so many of them the items', and there is room for it
pub record Ready (b : List ℕ) (count : ℕ) (words : List ℕ) (size items room : ℕ) : Type 0 where
  pub rows : Rows b count words
  pub whole : size ≡ length (encode (table_pieces b count words))
  pub part : items ≡ length (table_bytes b count words)
  pub small : size ≤ 8192
  pub fits : size ≤ room
