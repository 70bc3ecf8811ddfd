-- The listing of an accepted packet: a packet that is refused is answered by its refusal, and nothing is written.
use Rattle.std.specs.Prelude.{ℕ, ◌≡◌, List, Result}
use Rattle.base.specs.Putting.{put_into}
use Rattle.refusal.specs.Answer.{Answer, then, or_else, answer_said}
use Rattle.catalogue.specs.Rows.{all_tags}
use Rattle.packet.specs.Verdict.{checked}
use Rattle.listing.specs.Listing.{listing_of}
use Rattle.listing.specs.Lists.{text_answer}
use Rattle.refusal.specs.declared.Refusal.{Refusal}

unfoldable pub list_answer : List ℕ → List ℕ → Answer ℕ
list_answer p o = then (checked all_tags p) (λ _. text_answer (listing_of p) o)

unfoldable pub list_output : List ℕ → List ℕ → List ℕ
list_output p o = or_else o (λ _. put_into o 0 (listing_of p)) (checked all_tags p)

pub record ListsAccepted (p o : List ℕ) (r : Result ℕ Refusal) (o' : List ℕ) : Type 0 where
  pub answer : answer_said r ≡ list_answer p o
  pub output : o' ≡ list_output p o
