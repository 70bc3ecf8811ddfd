-- Document 01, Rows: what starting a walker gives back, and what a step gives back. The contracts of `start` and `next` are these.
use Rattle.std.specs.Prelude.{ℕ, ◌≡◌, List}
use Rattle.std.specs.Borrow.{Bor}
use Rattle.packet.specs.Verdict.{checked}
use Rattle.walker.specs.Steps.{found_at, part_at, next_at, begin_by, start_place}
use Rattle.refusal.specs.Answer.{answer_said}
use Rattle.tagset.specs.declared.TagSet.{TagSet}
use Rattle.walker.specs.declared.Walker.{Walker}
use Rattle.walker.specs.declared.Started.{Started}
use Rattle.walker.specs.declared.Passed.{Passed}

-- the walker that stands at a place of the packet s
abbrev pub walker_at : Bor (List ℕ) → TagSet → ℕ → Walker
walker_at s known at = record { packet = s; at = at; known = known }

-- "Starting the walker gives the reader's refusals but for 2"
pub record Starts (s : Bor (List ℕ)) (known : TagSet) (r : Started) : Type 0 where
  pub answer : answer_said r.answer ≡ begin_by (checked known s.now)
  pub walker : r.walker ≡ walker_at s known (start_place known s.now)

-- the item or that there are no more, its value, and the walker after it
pub record Passes (w : Walker) (r : Passed) : Type 0 where
  pub found : r.found ≡ found_at w.known w.packet.now w.at
  pub value : r.value.now ≡ part_at w.packet.now w.at
  pub rest : r.rest ≡ walker_at w.packet w.known (next_at w.packet.now w.at)
