-- What was answered, said as a struct.
-- Assumes nothing.
use Prim.Native.Nat.{ℕ}
use mathlib.Core.Path.{◌≡◌, refl, ap, sym, ◌∙◌}
use mathlib.Core.List.{List}
use Rattle.base.proofs.Cases.{never}
use Rattle.refusal.specs.Answer.{Answer, given, refused, answer_said}
use Rattle.refusal.specs.declared.Refusal.{Refusal}
use Rattle.tagset.specs.declared.TagSet.{TagSet}
use Rattle.packet.specs.Verdict.{checked}
use Rattle.packet.specs.declared.Accepted.{Accepted}
use Rattle.walker.specs.Steps.{begin_by, place_by, start_place}
use Rattle.oysterknoll.specs.Answers.{nothing, starting, start_answer}
use Rattle.std.specs.Prelude.{Result, Ok}

-- how a walk begins, by what the check answers
module _ (K : TagSet) (p : List ℕ) (b : Result (Unit {0}) Refusal) where
  pub start_good : b ≡ (Ok tt) → answer_said b ≡ begin_by (checked K p) → starting nothing (start_place K p) ≡ start_answer (checked K p)
  unfolding start_place
  start_good e h = go (checked K p) (sym (ap answer_said e) ∙ h)
    where
      go : (a : Answer Accepted) → given tt ≡ begin_by a → starting nothing (place_by p a) ≡ start_answer a
      go (given a) f = refl
      go (refused n at t) f = never (cc)
