-- Document 01, Worked values: the lines that the listing program prints, "fields parted by tabs".
use Rattle.std.specs.Prelude.{ℕ, List, [], ◌∷◌, ◌++◌, take, drop}
use Rattle.refusal.specs.Answer.{Answer, given, refused}
use Rattle.rows.specs.Meaning.{Meaning, reading, mark, text, carried, withdrawn, map_meaning}
use Rattle.rows.specs.declared.RowWords.{RowWords}
use Rattle.rows.specs.Taken.{part_place, row_says}
use Rattle.rows.specs.declared.Part.{Part}
use Rattle.scale.specs.Conversions.{to_house}
use Rattle.scale.specs.declared.House.{House}
use Rattle.spelling.specs.Spelling.{decimal, whole, hex}

-- "place", "tag", "kind", "value", with the tabs between them and the end of the line
unfoldable pub header : List ℕ
header =
    0x70 ∷ 0x6C ∷ 0x61 ∷ 0x63 ∷ 0x65 ∷ 0x09 ∷ 0x74 ∷ 0x61 ∷ 0x67 ∷ 0x09 ∷ 0x6B ∷ 0x69 ∷ 0x6E ∷ 0x64 ∷ 0x09 ∷ 0x76 ∷ 0x61 ∷ 0x6C ∷ 0x75 ∷ 0x65 ∷ 0x0A ∷ []

-- "Kinds are number, mark, text, carried.", W-204's "withdrawn", and "refused", each with the tab after it; after "mark" the "-" of its value
unfoldable pub number_word : List ℕ
number_word = 0x6E ∷ 0x75 ∷ 0x6D ∷ 0x62 ∷ 0x65 ∷ 0x72 ∷ 0x09 ∷ []

unfoldable pub mark_word : List ℕ
mark_word = 0x6D ∷ 0x61 ∷ 0x72 ∷ 0x6B ∷ 0x09 ∷ 0x2D ∷ []

unfoldable pub text_word : List ℕ
text_word = 0x74 ∷ 0x65 ∷ 0x78 ∷ 0x74 ∷ 0x09 ∷ []

unfoldable pub carried_word : List ℕ
carried_word = 0x63 ∷ 0x61 ∷ 0x72 ∷ 0x72 ∷ 0x69 ∷ 0x65 ∷ 0x64 ∷ 0x09 ∷ []

unfoldable pub withdrawn_word : List ℕ
withdrawn_word = 0x77 ∷ 0x69 ∷ 0x74 ∷ 0x68 ∷ 0x64 ∷ 0x72 ∷ 0x61 ∷ 0x77 ∷ 0x6E ∷ 0x09 ∷ []

unfoldable pub refused_word : List ℕ
refused_word = 0x72 ∷ 0x65 ∷ 0x66 ∷ 0x75 ∷ 0x73 ∷ 0x65 ∷ 0x64 ∷ 0x09 ∷ []

-- a number and what parts it from the next field, or ends the line
abbrev pub tab : List ℕ
tab = 0x09 ∷ []

abbrev pub newline : List ℕ
newline = 0x0A ∷ []

unfoldable pub field : ℕ → List ℕ
field n = decimal n ++ tab

-- "A number is in house units where scaled, else the code"
abbrev pub number_text : Answer House → ℕ → List ℕ
number_text (given h) code = whole h.value
number_text (refused n p t) code = decimal code

-- kind and value: "a mark prints "-"; text and carried print upper-case hex, nothing if empty"; W-204: "kind "withdrawn" and nothing after the tab"
abbrev pub meaning_text : ℕ → Meaning (List ℕ) → List ℕ
meaning_text tag (reading code size) = number_word ++ number_text (to_house tag size code) code
meaning_text tag (mark code size) = mark_word
meaning_text tag (text bytes) = text_word ++ hex bytes
meaning_text tag (carried bytes) = carried_word ++ hex bytes
meaning_text tag withdrawn = withdrawn_word

-- text and carried bytes as they stand in the packet
abbrev pub bytes_in : List ℕ → Part → List ℕ
bytes_in p part = take part.length (drop part.place p)

unfoldable pub content_text : List ℕ → RowWords → List ℕ
content_text p r = meaning_text r.tag (map_meaning (bytes_in p) (row_says r))

-- "Place is the value's."
unfoldable pub line_of : List ℕ → RowWords → List ℕ
line_of p r = field (part_place r.part) ++ (field r.tag ++ (content_text p r ++ newline))

unfoldable pub lines_of : List ℕ → List RowWords → List ℕ
lines_of p [] = []
lines_of p (r ∷ rs) = line_of p r ++ lines_of p rs

-- "A refusal prints only one line: refused, number, place, tag."
unfoldable pub refused_line : ℕ → ℕ → ℕ → List ℕ
refused_line n place t = refused_word ++ (field n ++ (field place ++ (decimal t ++ newline)))
