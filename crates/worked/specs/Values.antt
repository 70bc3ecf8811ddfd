-- Document 01, Worked values: those with a star, as one list with those of W-202 to W-204, and one test over the definitions that the contracts
-- cite.
use Rattle.std.specs.Prelude.{ℕ, ◌-◌, ◌*◌, ◌+◌, Bool, true, false, ◌&&◌, List, [], ◌∷◌, ◌++◌, length, replicate, eqb, ℤ, pos, negsuc, neg_ℤ}
use Rattle.std.specs.Bool.{beq}
use Rattle.refusal.specs.Answer.{Answer, given, refused}
use Rattle.ber.specs.Read.{Read, got, broken, read_length}
use Rattle.tagset.specs.Sets.{no_tags, knowing, holds, same as sameSet}
use Rattle.tagset.specs.declared.TagSet.{TagSet}
use Rattle.catalogue.specs.Rows.{all_tags}
use Rattle.scale.specs.Conversions.{to_house, to_code}
use Rattle.scale.specs.declared.House.{House}
use Rattle.scale.specs.declared.Code.{Code}
use Rattle.packet.specs.Structure.{key, same}
use Rattle.packet.specs.Rows.{shape_for, words, read_answer, read_table}
use Rattle.rows.specs.Meaning.{reading_kind, text_kind, carried_kind, withdrawn_kind}
use Rattle.rows.specs.Taken.{row_good}
use Rattle.rows.specs.declared.RowWords.{RowWords}
use Rattle.rows.specs.declared.Filled.{Filled}
use Rattle.ground.specs.Ground.{CornerSeen, no_corner, off_the_earth, on, corner_in}

abbrev pub same_read : Read → Read → Bool
same_read (got v s) (got w t) = eqb v w && eqb s t
same_read (got v s) broken = false
same_read broken (got w t) = false
same_read broken broken = true

abbrev pub same_answer : {A : Type 0} → (A → A → Bool) → Answer A → Answer A → Bool
same_answer same (given a) (given b) = same a b
same_answer same (given a) (refused n p t) = false
same_answer same (refused m q u) (given b) = false
same_answer same (refused m q u) (refused n p t) = eqb m n && (eqb q p && eqb u t)

abbrev pub same_whole : ℤ → ℤ → Bool
same_whole (pos m) (pos n) = eqb m n
same_whole (pos m) (negsuc n) = false
same_whole (negsuc m) (pos n) = false
same_whole (negsuc m) (negsuc n) = eqb m n

-- what a conversion gives, all of it
abbrev pub house : ℤ → Answer House
house value = given (record { value = value })

abbrev pub same_house : House → House → Bool
same_house g h = same_whole g.value h.value

abbrev pub code : ℕ → Answer Code
code stored = given (record { code = stored })

abbrev pub same_code : Code → Code → Bool
same_code c d = eqb c.code d.code

abbrev pub same_filled : Filled → Filled → Bool
same_filled f g = eqb f.count g.count && (sameSet f.present g.present && sameSet f.withdrawn g.withdrawn)

abbrev pub same_corner : CornerSeen → CornerSeen → Bool
same_corner no_corner no_corner = true
same_corner off_the_earth off_the_earth = true
same_corner (on a b) (on c d) = same_whole a c && same_whole b d
same_corner no_corner off_the_earth = false
same_corner no_corner (on c d) = false
same_corner off_the_earth no_corner = false
same_corner off_the_earth (on c d) = false
same_corner (on a b) no_corner = false
same_corner (on a b) off_the_earth = false

-- a lent table of words that are not zero, one longer than the reader needs
abbrev pub lent : List ℕ
lent = replicate 513 7

-- what a table holds after these rows: zeros up to word 512, and the word beyond as it was
abbrev pub table_with : List RowWords → List ℕ
table_with rows = words rows ++ (replicate (512 - 4 * length rows) 0 ++ (7 ∷ []))

-- a number's row, by the place of its value
abbrev pub number_row : ℕ → ℕ → ℕ → ℕ → RowWords
number_row place size tag code = record { tag = tag; kind = reading_kind; code = code; part = place * 65536 + size }

-- a withdrawn item's row, by the place at which its value would stand
abbrev pub withdrawn_row : ℕ → ℕ → RowWords
withdrawn_row place tag = record { tag = tag; kind = withdrawn_kind; code = 0; part = place * 65536 }

-- the rows of corner 1: frame centre and offset, latitude before longitude; and the full ones
abbrev pub by_offset : ℕ → ℕ → ℕ → ℕ → List RowWords
by_offset north east up right = number_row 0 4 23 north ∷ number_row 0 4 24 east ∷ number_row 0 2 26 up ∷ number_row 0 2 27 right ∷ []

abbrev pub full : ℕ → ℕ → List RowWords
full north east = number_row 0 4 82 north ∷ number_row 0 4 83 east ∷ []

pub data Case : Type 0 where
  -- the bytes of a length, and what reading them finds
  length_case : List ℕ → Read → Case
  -- a tag, a length, a code and its value in house units; a tag, a length, a value and its code
  house_case : ℕ → ℕ → ℕ → Answer House → Case
  code_case : ℕ → ℕ → ℤ → Answer Code → Case
  -- a packet, the rows that a receiver of the whole catalogue reads, and the words beside them: of what is there, and of what is withdrawn
  packet_case : List ℕ → List RowWords → TagSet → TagSet → Case
  -- a packet that it refuses: number, place and tag
  refused_case : List ℕ → ℕ → ℕ → ℕ → Case
  -- a row, whether its writer takes it, with no bytes in the buffer
  row_case : RowWords → Bool → Case
  -- rows, and the corner 1 that they give
  corner_case : List RowWords → CornerSeen → Case

abbrev pub right : Case → Bool
right (length_case bytes found) = same_read (read_length bytes) found
right (house_case tag n code answer) = same_answer same_house (to_house tag n code) answer
right (code_case tag n value answer) = same_answer same_code (to_code tag n value) answer
right (packet_case packet rows present withdrawn) =
    same_answer same_filled (read_answer all_tags packet lent) (given (record { count = length rows; present = present; withdrawn = withdrawn }))
    && same (read_table all_tags packet lent) (table_with rows)
right (refused_case packet number place tag) = same_answer same_filled (read_answer all_tags packet lent) (refused number place tag)
right (row_case row good) = beq (row_good (shape_for (holds all_tags) row.tag) 0 row) good
right (corner_case rows corner) = same_corner (corner_in 1 rows) corner

-- "The packet key, 11, 02 08 00 00 00 00 00 00 00 01, 41 01 11, 01 02 62 A6 is accepted."
unfoldable pub packet : List ℕ
packet =
    key
    ++ (0x11 ∷ 0x02 ∷ 0x08 ∷ 0x00 ∷ 0x00 ∷ 0x00 ∷ 0x00 ∷ 0x00 ∷ 0x00 ∷ 0x00 ∷ 0x01
    ∷ 0x41 ∷ 0x01 ∷ 0x11
    ∷ 0x01 ∷ 0x02 ∷ 0x62 ∷ 0xA6 ∷ [])

-- the same with items 3 and 104 withdrawn (W-204), and one whose version is
unfoldable pub fleet : List ℕ
fleet =
    key
    ++ (0x15 ∷ 0x02 ∷ 0x08 ∷ 0x00 ∷ 0x00 ∷ 0x00 ∷ 0x00 ∷ 0x00 ∷ 0x00 ∷ 0x00 ∷ 0x01
    ∷ 0x41 ∷ 0x01 ∷ 0x11
    ∷ 0x03 ∷ 0x00
    ∷ 0x68 ∷ 0x00
    ∷ 0x01 ∷ 0x02 ∷ 0xD1 ∷ 0xA6 ∷ [])

unfoldable pub versionless : List ℕ
versionless =
    key
    ++ (0x10 ∷ 0x02 ∷ 0x08 ∷ 0x00 ∷ 0x00 ∷ 0x00 ∷ 0x00 ∷ 0x00 ∷ 0x00 ∷ 0x00 ∷ 0x01
    ∷ 0x41 ∷ 0x00
    ∷ 0x01 ∷ 0x02 ∷ 0x61 ∷ 0x94 ∷ [])

-- "Lengths: 7F and 81 7F are 127; 80 and 85 are refused": these two with bytes enough after them
unfoldable pub values : List Case
values =
    length_case (0x7F ∷ []) (got 127 1)
    ∷ length_case (0x81 ∷ 0x7F ∷ []) (got 127 2)
    ∷ length_case (0x80 ∷ 0x01 ∷ 0x01 ∷ []) broken
    ∷ length_case (0x85 ∷ 0x01 ∷ 0x01 ∷ 0x01 ∷ 0x01 ∷ 0x01 ∷ []) broken
    -- conversions
    ∷ house_case 18 4 0x724A0A20 (house (pos 1607192114))
    ∷ house_case 19 4 0x87F84B86 (house (neg_ℤ (pos 1687923248)))
    ∷ house_case 21 4 0x03830926 (house (pos 68590983))
    ∷ house_case 64 2 0xDDC5 (house (pos 3118681621))
    ∷ house_case 26 2 0x8001 (house (neg_ℤ (pos 750000)))
    ∷ house_case 26 2 0x7FFF (house (pos 750000))
    ∷ house_case 26 2 0x0001 (house (pos 23))
    ∷ house_case 26 2 0x8000 (refused 20 0 26)
    ∷ house_case 39 1 0x80 (house (neg_ℤ (pos 128000)))
    ∷ house_case 15 2 0x0000 (house (neg_ℤ (pos 900000)))
    ∷ house_case 15 2 0xFFFF (house (pos 19000000))
    -- a tie, and just below it
    ∷ code_case 36 1 (pos 10000) (code 26)
    ∷ code_case 36 1 (pos 9999) (code 25)
    -- W-202: "2F921E is 23,456,234 mm", for each of the three
    ∷ house_case 103 3 0x2F921E (house (pos 23456234))
    ∷ house_case 104 3 0x2F921E (house (pos 23456234))
    ∷ house_case 105 3 0x2F921E (house (pos 23456234))
    -- "a tie upward", below zero: -899,937.5
    ∷ house_case 103 3 0x000008 (house (neg_ℤ (pos 899937)))
    -- 40,000 m is inside, at each length
    ∷ house_case 105 2 0x4FE2 (house (pos 40000000))
    ∷ house_case 105 3 0x4FE200 (house (pos 40000000))
    ∷ house_case 105 4 0x4FE20000 (house (pos 40000000))
    -- "19 for another length and 20 for such a code"
    ∷ house_case 104 5 0x2F921E (refused 19 0 104)
    ∷ house_case 104 2 0x4FE3 (refused 20 0 104)
    -- "sending cuts down to the code below": "a 3-byte code whose value was rounded down comes back one lower"
    ∷ code_case 104 3 (pos 23456240) (code 0x2F921E)
    ∷ code_case 104 3 (pos 23456234) (code 0x2F921D)
    -- "ignored at other tags"
    ∷ house_case 15 5 0xFFFF (house (pos 19000000))
    -- the packet: place, length, tag and code of its rows; 2 and 1 are bits of the low word, 65 is bit 1 of the high one
    ∷ packet_case packet (number_row 19 8 2 1 ∷ number_row 29 1 65 17 ∷ number_row 32 2 1 25254 ∷ []) (knowing 6 2) no_tags
    -- W-203: the island's "corner at 180.03 degrees", and as far below -180
    ∷ corner_case (by_offset 0 0x7FFEA279 0 0x4000) (on (pos 0) (neg_ℤ (pos 1799699989)))
    ∷ corner_case (by_offset 0 0x80015D87 0 0xC000) (on (pos 0) (pos 1799699989))
    -- "-180 (included) to 180 (excluded)", "also for full corners at exactly 180"
    ∷ corner_case (by_offset 0 0x7FFFFFFF 0 0) (on (pos 0) (neg_ℤ (pos 1800000000)))
    ∷ corner_case (full 0x7FFFFFFF 0x7FFFFFFF) (on (pos 900000000) (neg_ℤ (pos 1800000000)))
    ∷ corner_case (full 0x80000001 0x7FFFFFFE) (on (neg_ℤ (pos 900000000)) (pos 1799999999))
    ∷ corner_case (full 0 0x80000001) (on (pos 0) (neg_ℤ (pos 1800000000)))
    -- "A latitude sum beyond 90 degrees": the shown one; the first is 90.00000003 degrees exactly
    ∷ corner_case (by_offset 0x7FFFFFC9 0 0x0001 0) (on (pos 900000000) (pos 0))
    ∷ corner_case (by_offset 0x7FFFFFCA 0 0x0001 0) off_the_earth
    ∷ corner_case (by_offset 0x80000037 0 0xFFFF 0) (on (neg_ℤ (pos 900000000)) (pos 0))
    ∷ corner_case (by_offset 0x80000036 0 0xFFFF 0) off_the_earth
    -- W-204: "with code 0 and length 0"; 3 is a bit of the low word, 104 bit 40 of the high one
    ∷ packet_case fleet
    (number_row 19 8 2 1 ∷ number_row 29 1 65 17 ∷ withdrawn_row 32 3 ∷ withdrawn_row 34 104 ∷ number_row 36 2 1 53670 ∷ [])
    (knowing 14 0x10000000002) (knowing 8 0x10000000000)
    -- "12 no longer for length zero, except at 1, 2 and 65"
    ∷ refused_case versionless 12 27 65
    -- "The writer ignores a withdrawn row's place."; "a withdrawn row with a code or a length, or a text row of length 0, gets 17"
    ∷ row_case (withdrawn_row 0xFFFFFFFFFFFF 104) true
    ∷ row_case (withdrawn_row 0 65) false
    ∷ row_case (record { tag = 104; kind = withdrawn_kind; code = 1; part = 0 }) false
    ∷ row_case (record { tag = 104; kind = withdrawn_kind; code = 0; part = 2 }) false
    ∷ row_case (record { tag = 3; kind = text_kind; code = 0; part = 0 }) false
    -- a tag that is not known: "carries an empty value"
    ∷ row_case (withdrawn_row 0 94) false
    ∷ row_case (record { tag = 94; kind = carried_kind; code = 0; part = 0 }) true
    -- "Heights and corners treat a withdrawn row as absent."
    ∷ corner_case (withdrawn_row 0 82 ∷ withdrawn_row 0 83 ∷ by_offset 0 0 0x0001 0x0001) (on (pos 23) (pos 23))
    ∷ corner_case (withdrawn_row 0 26 ∷ full 0 0x7FFFFFFE) (on (pos 0) (pos 1799999999))
    -- a row used that is not there comes before
    ∷ corner_case (number_row 0 4 23 0x7FFFFFFF ∷ number_row 0 4 24 0 ∷ number_row 0 2 26 0x7FFF ∷ []) no_corner
    ∷ []
