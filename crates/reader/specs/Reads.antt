-- What the reader answers, and what it leaves in the table lent.
use Rattle.std.specs.Prelude.{ℕ, ◌≡◌, List, Result}
use Rattle.refusal.specs.Answer.{answer_said}
use Rattle.tagset.specs.declared.TagSet.{TagSet}
use Rattle.packet.specs.Rows.{Filled, read_answer, read_table}
use Rattle.refusal.specs.declared.Refusal.{Refusal}

pub record Reads (K : TagSet) (p t : List ℕ) (r : Result Filled Refusal) (t' : List ℕ) : Type 0 where
  pub answer : answer_said r ≡ read_answer K p t
  pub table : t' ≡ read_table K p t
