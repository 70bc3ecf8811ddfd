-- Document 01, Refusals, Writer: "1, 16, first bad row 17, total size 3, then 9 and 10, then row by row 12, 13, 14, then 15",
-- each a stage by itself, one after another; "place is the row number for 9, 10 and 12 to 14 (0 if there are no rows)".
-- W-201: "The writer, when handed these words, refuses words that a scan of its rows would not give. Refusals: 22, words disagree,
-- in the writer straight after 17, place and tag 0."
use Rattle.std.specs.Prelude.{ℕ, suc, Bool, true, cond, List, [], ◌∷◌, length, ltb, Option, Some, None}
use Rattle.refusal.specs.Answer.{Answer, given, refused, then}
use Rattle.tagset.specs.Sets.{holds, same}
use Rattle.tagset.specs.declared.TagSet.{TagSet}
use Rattle.knowing.specs.Good.{good}
use Rattle.rows.specs.Meaning.{shape_for}
use Rattle.rows.specs.declared.RowWords.{RowWords}
use Rattle.rows.specs.Taken.{row_good, tag_shown, count_good}
use Rattle.rows.specs.Present.{present_in}
use Rattle.packet.specs.Pieces.{Piece}
use Rattle.packet.specs.Ends.{right_ends}
use Rattle.packet.specs.declared.Ends.{Ends}
use Rattle.packet.specs.Judge.{Knowing, Judged, fine, faulty, no_version, judge}
use Rattle.packet.specs.Encode.{items_bytes, encode}
use Rattle.packet.specs.Rows.{rows_in, pieces_of}
use Rattle.outgoing.specs.declared.Packed.{Packed}

-- 1 and 16
abbrev pub right_set : TagSet → Answer (Unit {0})
right_set K = cond (good K) (given tt) (refused 1 0 0)

abbrev pub right_count : ℕ → List ℕ → Answer (Unit {0})
right_count count words = cond (count_good count (length words)) (given tt) (refused 16 0 0)

-- 17, for rows numbered from k on
unfoldable pub right_rows : Knowing → ℕ → ℕ → List RowWords → Answer (Unit {0})
right_rows K room k [] = given tt
right_rows K room k (r ∷ rs) =
    cond (row_good (shape_for K r.tag) room r) (right_rows K room (suc k) rs) (refused 17 k (tag_shown r.tag))

-- whether the words handed, if any were, are those that are there
abbrev pub agrees : Option TagSet → TagSet → Bool
agrees None present = true
agrees (Some s) present = same s present

-- 22
abbrev pub right_words : Option TagSet → List RowWords → Answer (Unit {0})
right_words h rs = cond (agrees h (present_in rs)) (given tt) (refused 22 0 0)

-- 3
abbrev pub right_size : ℕ → Answer (Unit {0})
right_size bytes = cond (ltb 8192 bytes) (refused 3 0 0) (given tt)

-- 9 and 10, by the first and the last piece
abbrev pub last_piece : Piece → List Piece → Piece
last_piece c [] = c
last_piece c (d ∷ ds) = last_piece d ds

abbrev pub ends_of : List Piece → Ends
ends_of [] = record { start = 0; first = 0; end = 0; last = 0; size = 0 }
ends_of (c ∷ cs) =
    let z = last_piece c cs in
    record { start = 0; first = c.tag; end = length cs; last = z.tag; size = length z.value }

-- 12 to 15
abbrev pub by_row : Judged → Answer (Unit {0})
by_row fine = given tt
by_row (faulty k n t) = refused n k t
by_row no_version = refused 15 0 0

-- from 3 on: the stages of pieces
unfoldable pub sendable : Knowing → List Piece → Answer (List Piece)
sendable K cs =
    then (right_size (length (encode cs))) (λ _.
    then (right_ends (ends_of cs)) (λ _.
    then (by_row (judge K cs)) (λ _. given cs)))

-- count rows in lent words, what was handed beside them, and the buffer that text and carried rows point into: the pieces to be written
abbrev pub outgoing_with : TagSet → Option TagSet → ℕ → List ℕ → List ℕ → Answer (List Piece)
outgoing_with K h count words b =
    then (right_set K) (λ _.
    then (right_count count words) (λ _.
    then (right_rows (holds K) (length b) 0 (rows_in 0 count words)) (λ _.
    then (right_words h (rows_in 0 count words)) (λ _.
    sendable (holds K) (pieces_of (holds K) b (rows_in 0 count words))))))

-- and with nothing handed
unfoldable pub outgoing : TagSet → ℕ → List ℕ → List ℕ → Answer (List Piece)
outgoing K count words b = outgoing_with K None count words b

-- how many bytes the packet has, and how many of them its items
abbrev pub packed_of : List Piece → Packed
packed_of cs = record { size = length (encode cs); items = length (items_bytes cs) }
