-- Document 01, Rows: "The writer, besides words, takes its rows as a lent list of records." The word image of a record.
use Rattle.std.specs.Prelude.{ℕ, zero, suc, ◌+◌, ◌*◌, ◌^◌, Bool, cond, ◌&&◌, List, [], ◌∷◌, ltb, eqb, length, get_or, replicate}
use lib.Seq.{sets}
use Rattle.catalogue.specs.Shapes.{shape_of}
use Rattle.catalogue.specs.declared.Shape.{Shape}
use Rattle.catalogue.specs.declared.Shape.TheVariants.{Text, Number, Absent}
use Rattle.rows.specs.Meaning.{Meaning, reading, mark, text, carried, withdrawn, mark_code, kind_of, code_of}
use Rattle.rows.specs.declared.RowWords.{RowWords}
use Rattle.rows.specs.declared.Part.{Part}
use Rattle.rows.specs.declared.Content.{Content}
use Rattle.rows.specs.declared.Content.TheVariants as content
use Rattle.rows.specs.declared.Row.{Row}

-- the catalogue's one length for a tag, 0 where a tag has none or more
abbrev pub width_by : Shape → ℕ
width_by (Number least most marked) = cond (eqb least most) most 0
width_by Text = 0
width_by Absent = 0

abbrev pub width_of : ℕ → ℕ
width_of t = width_by (shape_of t)

-- what a record's content says of its item: since W-202 a reading has its length; a mark has the catalogue's, and the code with only the top bit
abbrev pub says_for : ℕ → Content → Meaning Part
says_for tag (content.Reading code length) = reading code length
says_for tag content.Mark = mark (mark_code (width_of tag)) (width_of tag)
says_for tag (content.Text part) = text part
says_for tag (content.Carried part) = carried part
says_for tag content.Withdrawn = withdrawn

-- where its bytes stand: a number's at place 0, and those of what is withdrawn, which are none (W-204)
abbrev pub part_in : Meaning Part → Part
part_in (reading code size) = record { place = 0; length = size }
part_in (mark code size) = record { place = 0; length = size }
part_in (text part) = part
part_in (carried part) = part
part_in withdrawn = record { place = 0; length = 0 }

-- whether a word can hold place and length
abbrev pub holdable : Part → Bool
holdable part = ltb part.place (2 ^ 48) && ltb part.length 65536

-- the kind where it cannot, which is bad for every receiver
abbrev pub no_kind : ℕ
no_kind = 0

abbrev pub row_with : ℕ → ℕ → ℕ → Part → RowWords
row_with tag kind code part =
    cond (holdable part)
    (record { tag = tag; kind = kind; code = code; part = part.place * 65536 + part.length })
    (record { tag = tag; kind = no_kind; code = 0; part = 0 })

-- the row of what is said of an item
abbrev pub row_saying : ℕ → Meaning Part → RowWords
row_saying tag m = row_with tag (kind_of m) (code_of m) (part_in m)

unfoldable pub image_of : Row → RowWords
image_of r = row_saying r.tag (says_for r.tag r.content)

-- what stands past the end of a list of records
abbrev pub none : Row
none = record { tag = 0; content = content.Mark }

-- the table t with the images of the records 0 to n - 1 put in, row after row
abbrev pub put_image : List ℕ → ℕ → RowWords → List ℕ
put_image t n r = sets t (4 * n) (r.tag ∷ r.kind ∷ r.code ∷ r.part ∷ [])

unfoldable pub images_into : ℕ → List Row → List ℕ → List ℕ
images_into zero rs t = t
images_into (suc n) rs t = put_image (images_into n rs t) n (image_of (get_or rs n none))

-- "a list of over 128 records gets 16": as many records as there is room for
abbrev pub fitting : ℕ → ℕ
fitting n = cond (ltb n 128) n 128

unfoldable pub image_table : List Row → List ℕ
image_table rs = images_into (fitting (length rs)) rs (replicate 512 0)
