-- Which lengths and which codes an item allows.
use Rattle.std.specs.Prelude.{ℕ, Bool, true, false, not, cond, ◌&&◌, ◌||◌, ltb, leb, eqb, Option, Some, None}
use Rattle.std.specs.Int.Signed.{lt_z}
use Rattle.catalogue.specs.Items.{item_of}
use Rattle.catalogue.specs.Extended.{is_extended, in_reach}
use Rattle.catalogue.specs.declared.Item.{Item}
use Rattle.catalogue.specs.declared.Sign.{Sign}
use Rattle.catalogue.specs.declared.Sign.TheVariants.{Unsigned, Signed, Marked}
use Rattle.catalogue.specs.declared.Shape.{Shape}
use Rattle.catalogue.specs.declared.Shape.TheVariants.{Text, Number}

abbrev pub is_marked : Sign → Bool
is_marked Unsigned = false
is_marked Signed = false
is_marked Marked = true

-- a number has its width; what has none is a text, or with a scale an extended height: W-202, "Accept lengths 2, 3 and 4."
abbrev pub unfixed : Item → Shape
unfixed i = cond (lt_z i.low i.high) (Number 2 4 false) Text

abbrev pub shape_by : Option Item → Shape
shape_by (Some i) = cond (eqb i.width 0) (unfixed i) (Number i.width i.width (is_marked i.sign))
shape_by None = Shape.Absent

unfoldable pub shape_of : ℕ → Shape
shape_of t = shape_by (item_of t)

-- "Text of 1 to 127 bytes, any bytes"
abbrev pub shape_allows : Shape → ℕ → Bool
shape_allows Text n = ltb 0 n && ltb n 128
shape_allows (Number least most marked) n = leb least n && leb n most
shape_allows Shape.Absent n = false

-- whether a tag's value may have a length
unfoldable pub length_allowed : ℕ → ℕ → Bool
length_allowed t n = shape_allows (shape_of t) n

-- an item of the catalogue
abbrev pub is_listed : Shape → Bool
is_listed Text = true
is_listed (Number least most marked) = true
is_listed Shape.Absent = false

-- W-204: "a known item with length zero", which says "that the earlier value no longer holds"
abbrev pub is_empty : Shape → ℕ → Bool
is_empty shape n = is_listed shape && eqb n 0

-- "for any known tag but 1, 2 and 65": no packet is without these
unfoldable pub is_needed : ℕ → Bool
is_needed t = eqb t 1 || (eqb t 2 || eqb t 65)

-- whether a known item may have so many bytes. W-204 changed 12, "known item of wrong length": "12 no longer for length zero, except at 1, 2
-- and 65"
abbrev pub size_allowed : ℕ → Shape → ℕ → Bool
size_allowed t shape n = cond (is_empty shape n) (not (is_needed t)) (shape_allows shape n)

unfoldable pub right_length : ℕ → ℕ → Bool
right_length t n = size_allowed t (shape_of t) n

-- whether a tag allows a code of a length: "34 (u8, codes 0 to 2), 63 (u8, codes 0 to 8)", which allow one length each; W-202 adds "14 for a
-- code beyond 40,000 m"; what has no bytes has no code to be looked at (W-204)
unfoldable pub code_allowed : ℕ → ℕ → ℕ → Bool
code_allowed t n code = eqb n 0 || cond (eqb t 34) (ltb code 3) (cond (eqb t 63) (ltb code 9) (cond (is_extended t) (in_reach n code) true))

-- the tags that do not allow every code
unfoldable pub codes_limited : ℕ → Bool
codes_limited t = eqb t 34 || (eqb t 63 || is_extended t)
