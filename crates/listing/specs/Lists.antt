-- A text put at the front of a lent output: what is answered, and what is left there.
use Rattle.std.specs.Prelude.{ℕ, ◌≡◌, cond, List, length, ltb, Result}
use Rattle.base.specs.Putting.{put_into}
use Rattle.refusal.specs.Answer.{Answer, given, refused, answer_said}
use Rattle.refusal.specs.declared.Refusal.{Refusal}

-- the number of bytes, or 18 where the output is too short
unfoldable pub text_answer : List ℕ → List ℕ → Answer ℕ
text_answer text o = cond (ltb (length o) (length text)) (refused 18 0 0) (given (length text))

-- all of the text at the front of the output, or nothing
pub record Lists (text o : List ℕ) (r : Result ℕ Refusal) (o' : List ℕ) : Type 0 where
  pub answer : answer_said r ≡ text_answer text o
  pub output : o' ≡ put_into o 0 text
