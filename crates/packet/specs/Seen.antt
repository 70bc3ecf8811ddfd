-- Document 01, Rows: "A row is four 64-bit words: tag; kind (1 reading, 2 mark, 3 text, 4 carried); the stored code as an
-- unsigned number (0 for text and carried); place of the value × 65,536 + its length." W-204: "a fifth kind, withdrawn, with code 0 and length 0"
use Rattle.std.specs.Prelude.{◌+◌, ◌*◌, List, [], ◌∷◌, length}
use Rattle.catalogue.specs.declared.Shape.{Shape}
use Rattle.rows.specs.Meaning.{meaning_of, kind_of, code_of, shape_for}
use Rattle.rows.specs.declared.RowWords.{RowWords}
use Rattle.packet.specs.Pieces.{Item}
use Rattle.packet.specs.Judge.{Knowing}

abbrev pub row_by : Shape → Item → RowWords
row_by shape i =
    let m = meaning_of shape i.piece.value in
    record { tag = i.piece.tag; kind = kind_of m; code = code_of m; part = i.place * 65536 + length i.piece.value }

unfoldable pub row_of : Knowing → Item → RowWords
row_of K i = row_by (shape_for K i.piece.tag) i

unfoldable pub rows_of : Knowing → List Item → List RowWords
rows_of K [] = []
rows_of K (i ∷ is) = row_of K i ∷ rows_of K is
