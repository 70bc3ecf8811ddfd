-- The shadow of the code, not to be believed but proved to be what document 01's definitions give: the writer's stages
-- over the rows in their words, as they are walked.
use Rattle.std.specs.Prelude.{ℕ, ◌+◌, ◌-◌, cond, List, [], ◌∷◌, length, eqb, Option}
use Rattle.refusal.specs.Answer.{Answer, given, refused, then}
use Rattle.ber.specs.Written.{tag_bytes, length_bytes}
use Rattle.tagset.specs.Sets.{no_tags, holds, with_tag}
use Rattle.tagset.specs.declared.TagSet.{TagSet}
use Rattle.rows.specs.declared.RowWords.{RowWords}
use Rattle.rows.specs.Taken.{part_length, row_at}
use Rattle.packet.specs.Judge.{Fault, clean, wrong, fault_by, looked}
use Rattle.packet.specs.Ends.{right_ends}
use Rattle.packet.specs.declared.Ends.{Ends}
use Rattle.packet.specs.Rows.{rows_in}
use Rattle.outgoing.specs.Outgoing.{right_words, right_size}
use Rattle.outgoing.specs.declared.Packed.{Packed}

-- how many bytes a row's item has: tag, length in its shortest form, value
abbrev pub row_size : RowWords → ℕ
row_size r = length (tag_bytes r.tag) + length (length_bytes (part_length r.part)) + part_length r.part

unfoldable pub rows_size : List RowWords → ℕ
rows_size [] = 0
rows_size (r ∷ rs) = row_size r + rows_size rs

-- and the packet: key, length, items
abbrev pub packed_by : ℕ → Packed
packed_by items = record { size = 16 + length (length_bytes items) + items; items = items }

-- what is wrong with a row for a receiver, by the tags seen
unfoldable pub row_fault : TagSet → TagSet → RowWords → Fault
row_fault K seen r = cond (holds K r.tag) (fault_by (looked r.tag (part_length r.part) r.code (holds seen r.tag))) clean

abbrev pub unless_faulty : Fault → ℕ → ℕ → Answer (Unit {0}) → Answer (Unit {0})
unless_faulty clean k t otherwise = otherwise
unless_faulty (wrong n) k t otherwise = refused n k t

-- 12 to 15, for rows numbered from k on
unfoldable pub rows_judged : TagSet → TagSet → ℕ → List RowWords → Answer (Unit {0})
rows_judged K seen k [] = cond (holds seen 65) (given tt) (refused 15 0 0)
rows_judged K seen k (r ∷ rs) = unless_faulty (row_fault K seen r) k r.tag (rows_judged K (with_tag seen r.tag) (k + 1) rs)

abbrev pub judged_in : TagSet → ℕ → List ℕ → Answer (Unit {0})
judged_in K count words = rows_judged K no_tags 0 (rows_in 0 count words)

-- 9 and 10, by the first and the last row
abbrev pub ends_in : ℕ → List ℕ → Ends
ends_in count words =
    let z = row_at words (count - 1) in
    cond (eqb count 0) (record { start = 0; first = 0; end = 0; last = 0; size = 0 })
    (record { start = 0; first = (row_at words 0).tag; end = count - 1; last = z.tag; size = part_length z.part })

-- 9, 10, 12 to 15, or how many bytes the packet has
abbrev pub closed_in : TagSet → ℕ → List ℕ → Packed → Answer Packed
closed_in K count words packed = then (right_ends (ends_in count words)) (λ _. then (judged_in K count words) (λ _. given packed))

-- 3 before them
abbrev pub sized_by : TagSet → ℕ → List ℕ → Packed → Answer Packed
sized_by K count words packed = then (right_size packed.size) (λ _. closed_in K count words packed)

abbrev pub sized_in : TagSet → ℕ → List ℕ → Answer Packed
sized_in K count words = sized_by K count words (packed_by (rows_size (rows_in 0 count words)))

-- and 22 before that
abbrev pub told_in : TagSet → Option TagSet → ℕ → List ℕ → Answer Packed
told_in K h count words = then (right_words h (rows_in 0 count words)) (λ _. sized_in K count words)
