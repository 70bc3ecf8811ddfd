-- Document 01, Scope: "sending on is reading and then writing all rows, the packet being the buffer".
use Rattle.std.specs.Prelude.{ℕ, ◌≡◌, List, replicate, Result}
use Rattle.refusal.specs.Answer.{Answer, then, or_else, answer_said}
use Rattle.tagset.specs.declared.TagSet.{TagSet}
use Rattle.packet.specs.Rows.{read_answer, read_table}
use Rattle.writer.specs.Writes.{write_answer, write_output}
use Rattle.writer.specs.declared.Written.{Written}
use Rattle.refusal.specs.declared.Refusal.{Refusal}

-- a table of its own: as many words as the reader needs, so 2 is never the answer
abbrev pub own_table : List ℕ
own_table = replicate 512 0

-- read, then all rows written: the writer's answer and output
unfoldable pub forward_answer : TagSet → List ℕ → List ℕ → Answer Written
forward_answer K p o = then (read_answer K p own_table) (λ done. write_answer K done.count (read_table K p own_table) p o)

unfoldable pub forward_output : TagSet → List ℕ → List ℕ → List ℕ
forward_output K p o = or_else o (λ done. write_output K done.count (read_table K p own_table) p o) (read_answer K p own_table)

pub record Forwards (K : TagSet) (p o : List ℕ) (r : Result Written Refusal) (o' : List ℕ) : Type 0 where
  pub answer : answer_said r ≡ forward_answer K p o
  pub output : o' ≡ forward_output K p o
