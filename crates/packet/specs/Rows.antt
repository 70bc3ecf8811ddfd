-- Document 01, Rows: the table that a packet fills, and what its rows stand for.
use Rattle.std.specs.Prelude.{ℕ, zero, suc, ◌-◌, ◌*◌, ◌≡◌, false, cond, List, [], ◌∷◌, ◌++◌, length, take, drop, replicate, ltb}
use Rattle.refusal.specs.Answer.{Answer, refused, map, or_else}
use Rattle.number.specs.Stored.{bytes_of}
use Rattle.tagset.specs.Sets.{holds}
use Rattle.tagset.specs.declared.TagSet.{TagSet}
use Rattle.knowing.specs.Good.{good}
use Rattle.catalogue.specs.declared.Shape.{Shape}
use Rattle.catalogue.specs.declared.Shape.TheVariants.{Text, Number, Absent}
pub use Rattle.rows.specs.Meaning.{is_number}
pub use Rattle.rows.specs.declared.RowWords.{RowWords}
unfoldable pub use Rattle.rows.specs.Meaning.{shape_for}
use Rattle.rows.specs.Taken.{part_place, part_length, row_says, row_at}
use Rattle.rows.specs.Present.{present_in, withdrawn_in}
pub use Rattle.rows.specs.declared.Filled.{Filled}
use Rattle.packet.specs.Pieces.{Piece, Item}
use Rattle.packet.specs.Judge.{Knowing}
pub use Rattle.packet.specs.Seen.{row_by}
unfoldable pub use Rattle.packet.specs.Seen.{row_of, rows_of}
use Rattle.packet.specs.Verdict.{verdict}

unfoldable pub words : List RowWords → List ℕ
words [] = []
words (r ∷ rs) = r.tag ∷ r.kind ∷ r.code ∷ r.part ∷ words rs

-- "an accepted packet fills row after row and sets the rest of the first 512 to zero; words beyond stay"
unfoldable pub table_of : Knowing → List Item → List ℕ → List ℕ
table_of K is t = words (rows_of K is) ++ (replicate (512 - 4 * length is) 0 ++ drop 512 t)

-- a receiver that is lent a table of words
unfoldable pub lent_verdict : TagSet → List ℕ → List ℕ → Answer (List Item)
lent_verdict K p t =
    cond (good K) (cond (ltb (length t) 512) (refused 2 0 0) (verdict (holds K) p)) (refused 1 0 0)

-- the table of an accepted packet: how many rows it has, W-201's "two words beside the rows", and those of the withdrawn rows
abbrev pub filled_with : ℕ → List RowWords → Filled
filled_with count rs = record { count = count; present = present_in rs; withdrawn = withdrawn_in rs }

abbrev pub filled_by : Knowing → List Item → Filled
filled_by K is = filled_with (length is) (rows_of K is)

unfoldable pub read_answer : TagSet → List ℕ → List ℕ → Answer Filled
read_answer K p t = map (filled_by (holds K)) (lent_verdict K p t)

-- "An answer of refusal … changes no lent memory."
abbrev pub table_by : Knowing → List ℕ → Answer (List Item) → List ℕ
table_by K t = or_else t (λ is. table_of K is t)

unfoldable pub read_table : TagSet → List ℕ → List ℕ → List ℕ
read_table K p t = table_by (holds K) t (lent_verdict K p t)

-- n rows of a table, from the one numbered k on
unfoldable pub rows_in : ℕ → ℕ → List ℕ → List RowWords
rows_in k zero t = []
rows_in k (suc n) t = row_at t k ∷ rows_in (suc k) n t

-- the bytes that a row points at in a buffer
abbrev pub bytes_at : List ℕ → RowWords → List ℕ
bytes_at b r = take (part_length r.part) (drop (part_place r.part) b)

-- the value that a row stands for: its code's bytes, or those that it points at
abbrev pub row_value : Shape → List ℕ → RowWords → List ℕ
row_value (Number least most marked) b r = bytes_of (part_length r.part) r.code
row_value Text b r = bytes_at b r
row_value Absent b r = bytes_at b r

unfoldable pub piece_of : Knowing → List ℕ → RowWords → Piece
piece_of K b r = record { tag = r.tag; value = row_value (shape_for K r.tag) b r }

unfoldable pub pieces_of : Knowing → List ℕ → List RowWords → List Piece
pieces_of K b [] = []
pieces_of K b (r ∷ rs) = piece_of K b r ∷ pieces_of K b rs

-- The same table is "the same count, tags, kinds, codes and lengths, and for text and carried rows the same value bytes; places and
-- the checksum's code are left aside." b and c are the buffers that the rows point into. A withdrawn row has no bytes there.
pub record SameRow (b c : List ℕ) (r s : RowWords) : Type 0 where
  pub tag : r.tag ≡ s.tag
  pub kind : r.kind ≡ s.kind
  pub code : (r.tag ≡ 1 → ⊥) → r.code ≡ s.code
  pub size : part_length r.part ≡ part_length s.part
  pub value : is_number (row_says r) ≡ false → bytes_at b r ≡ bytes_at c s

pub data SameTable (b c : List ℕ) : List RowWords → List RowWords → Type 0 where
  no_rows : SameTable b c [] []
  one_more : {r s : RowWords} {rs ss : List RowWords} → SameRow b c r s → SameTable b c rs ss → SameTable b c (r ∷ rs) (s ∷ ss)
