-- Document 01, Rows and Writer: which rows are bad, and a row taken out singly.
use Rattle.std.specs.Prelude.{ℕ, ◌+◌, ◌*◌, ◌/◌, ◌%◌, ◌^◌, ◌≡◌, Bool, true, not, cond, ◌&&◌, ◌||◌, List, length, get_or, ltb, leb, eqb}
use Rattle.refusal.specs.Answer.{Answer, given, refused}
use Rattle.tagset.specs.Sets.{holds}
use Rattle.tagset.specs.declared.TagSet.{TagSet}
use Rattle.knowing.specs.Good.{good}
use Rattle.catalogue.specs.Shapes.{shape_allows, is_empty, is_needed}
use Rattle.catalogue.specs.declared.Shape.{Shape}
use Rattle.catalogue.specs.declared.Shape.TheVariants.{Text, Number, Absent}
use Rattle.rows.specs.Meaning.{Meaning, reading, mark, text, carried, withdrawn, withdrawn_kind, shape_for, value_as, kind_of, kind_for, said_by}
use Rattle.rows.specs.declared.RowWords.{RowWords}
use Rattle.rows.specs.declared.Content.{Content}
use Rattle.rows.specs.declared.Content.TheVariants as content
use Rattle.rows.specs.declared.Part.{Part}
use Rattle.rows.specs.declared.Row.{Row}

-- the fourth word: place × 65,536 + length
abbrev pub part_place : ℕ → ℕ
part_place w = w / 65536

abbrev pub part_length : ℕ → ℕ
part_length w = w % 65536

-- where text or carried bytes stand
abbrev pub part_of : ℕ → Part
part_of part = record { place = part_place part; length = part_length part }

-- what a row says that its item holds
abbrev pub row_says : RowWords → Meaning Part
row_says r = said_by r.kind r.code (part_length r.part) (part_of r.part)

-- "its tag is not 1 to 2,097,151"
abbrev pub tag_good : ℕ → Bool
tag_good t = ltb 0 t && ltb t 2097152

-- "it is text or carried and has a code other than 0 or a place plus length beyond the buffer"
abbrev pub part_good : ℕ → ℕ → ℕ → Bool
part_good room code part = eqb code 0 && leb (part_place part + part_length part) room

-- "a number with another length than the catalogue's, a code too wide"; "tag 1's code is never a reason". Since W-202 the catalogue may
-- allow more lengths than one, and a code is too wide for its own length.
abbrev pub code_good : ℕ → ℕ → ℕ → Bool
code_good tag width code = eqb tag 1 || ltb code (2 ^ (8 * width))

abbrev pub value_good : Shape → ℕ → RowWords → Bool
value_good (Number least most marked) room r =
    shape_allows (Number least most marked) (part_length r.part) && code_good r.tag (part_length r.part) r.code
value_good Text room r = part_good room r.code r.part
value_good Absent room r = part_good room r.code r.part

-- W-204: "for any known tag but 1, 2 and 65"; "The writer ignores a withdrawn row's place."; "a withdrawn row with a code or a length, or a text
-- row of length 0, gets 17", since by its length another kind is its
abbrev pub withdrawn_good : ℕ → ℕ → Bool
withdrawn_good tag code = not (is_needed tag) && eqb code 0

abbrev pub withdrawn_row_good : RowWords → Bool
withdrawn_row_good r = tag_good r.tag && (eqb r.kind withdrawn_kind && withdrawn_good r.tag r.code)

abbrev pub content_good : Shape → ℕ → RowWords → Bool
content_good shape room r = cond (is_empty shape (part_length r.part)) (withdrawn_good r.tag r.code) (value_good shape room r)

-- a row that is not bad, for a receiver and a buffer of so many bytes: its kind is the one that this receiver gives the tag, the code and the length
unfoldable pub row_good : Shape → ℕ → RowWords → Bool
row_good shape room r = tag_good r.tag && (eqb r.kind (kind_for shape r.code (part_length r.part)) && content_good shape room r)

-- the same of a row of some bytes, and of every row that is carried
unfoldable pub value_row_good : Shape → ℕ → RowWords → Bool
value_row_good shape room r =
    tag_good r.tag && (eqb r.kind (kind_of (value_as {A = Unit {0}} shape r.code (part_length r.part) tt)) && value_good shape room r)

-- the same of a receiver and a buffer
abbrev pub GoodRow : (ℕ → Bool) → List ℕ → RowWords → Type 0
GoodRow K b r = row_good (shape_for K r.tag) (length b) r ≡ true

-- the tag that goes with 17: "its tag if 1 to 2,097,151, else 0"
abbrev pub tag_shown : ℕ → ℕ
tag_shown t = cond (tag_good t) t 0

-- "row count over 128 or four times it over the words lent"
abbrev pub count_good : ℕ → ℕ → Bool
count_good count lent = leb count 128 && leb (4 * count) lent

-- the words of a row
unfoldable pub row_at : List ℕ → ℕ → RowWords
row_at words n =
    record {
      tag = get_or words (4 * n) 0;
      kind = get_or words (4 * n + 1) 0;
      code = get_or words (4 * n + 2) 0;
      part = get_or words (4 * n + 3) 0;
    }

-- "its tag beside one of four kinds of content", five since W-204; W-202: a reading has its length too, since the conversions are told it
abbrev pub content_of : Meaning Part → Content
content_of (reading code size) = content.Reading code size
content_of (mark code size) = content.Mark
content_of (text part) = content.Text part
content_of (carried part) = content.Carried part
content_of withdrawn = content.Withdrawn

abbrev pub row_taken : Shape → ℕ → ℕ → RowWords → Answer Row
row_taken shape room n r =
    cond (row_good shape room r) (given (record { tag = r.tag; content = content_of (row_says r) })) (refused 17 n (tag_shown r.tag))

-- the row numbered n of count rows: 1, 16, 17, or the row
unfoldable pub row_taken_at : TagSet → ℕ → ℕ → ℕ → List ℕ → Answer Row
row_taken_at K room count n words =
    cond (good K)
    (cond (count_good count (length words))
    (cond (ltb n count) (row_taken (shape_for (holds K) (row_at words n).tag) room n (row_at words n)) (refused 17 n 0))
    (refused 16 0 0))
    (refused 1 0 0)
