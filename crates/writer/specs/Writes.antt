-- Document 01, Writer: what it answers, and what it leaves in the output, whatever it was handed beside its rows (W-201).
use Rattle.std.specs.Prelude.{ℕ, ◌≡◌, cond, List, ◌++◌, length, drop, ltb, Result, Option}
use Rattle.refusal.specs.Answer.{Answer, given, refused, map, then, or_else, answer_said}
use Rattle.tagset.specs.declared.TagSet.{TagSet}
use Rattle.packet.specs.Pieces.{Piece}
use Rattle.packet.specs.Encode.{encode}
use Rattle.outgoing.specs.Outgoing.{outgoing_with, outgoing}
use Rattle.writer.specs.declared.Written.{Written}
use Rattle.refusal.specs.declared.Refusal.{Refusal}

-- 18, after all others: "output too short"
abbrev pub roomy : ℕ → List Piece → Answer (List Piece)
roomy room cs = cond (ltb room (length (encode cs))) (refused 18 0 0) (given cs)

unfoldable pub written_with : TagSet → Option TagSet → ℕ → List ℕ → List ℕ → ℕ → Answer (List Piece)
written_with K h count words b room = then (outgoing_with K h count words b) (roomy room)

-- the number of bytes
abbrev pub written_by : List Piece → Written
written_by cs = record { size = length (encode cs) }

-- "Bytes after the packet in the output stay."
abbrev pub output_by : List ℕ → Answer (List Piece) → List ℕ
output_by o = or_else o (λ cs. encode cs ++ drop (length (encode cs)) o)

unfoldable pub write_answer_with : TagSet → Option TagSet → ℕ → List ℕ → List ℕ → List ℕ → Answer Written
write_answer_with K h count words b o = map written_by (written_with K h count words b (length o))

unfoldable pub write_output_with : TagSet → Option TagSet → ℕ → List ℕ → List ℕ → List ℕ → List ℕ
write_output_with K h count words b o = output_by o (written_with K h count words b (length o))

pub record WritesWith (K : TagSet) (h : Option TagSet) (count : ℕ) (words b o : List ℕ) (r : Result Written Refusal) (o' : List ℕ) : Type 0 where
  pub answer : answer_said r ≡ write_answer_with K h count words b o
  pub output : o' ≡ write_output_with K h count words b o

-- the same with nothing handed
unfoldable pub written : TagSet → ℕ → List ℕ → List ℕ → ℕ → Answer (List Piece)
written K count words b room = then (outgoing K count words b) (roomy room)

unfoldable pub write_answer : TagSet → ℕ → List ℕ → List ℕ → List ℕ → Answer Written
write_answer K count words b o = map written_by (written K count words b (length o))

unfoldable pub write_output : TagSet → ℕ → List ℕ → List ℕ → List ℕ → List ℕ
write_output K count words b o = output_by o (written K count words b (length o))

pub record Writes (K : TagSet) (count : ℕ) (words b o : List ℕ) (r : Result Written Refusal) (o' : List ℕ) : Type 0 where
  pub answer : answer_said r ≡ write_answer K count words b o
  pub output : o' ≡ write_output K count words b o
