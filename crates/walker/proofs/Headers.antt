-- The item at a place by its header, and how a walk begins by what the check answers.
-- Assumes nothing.
use Prim.Native.Nat.{ℕ, ◌+◌, ◌≤◌}
use mathlib.Core.Path.{◌≡◌, sym, ap, ◌∙◌}
use mathlib.Core.List.{List}
use lib.ListN.{length}
use Rattle.refusal.specs.Answer.{given, answer_said}
use Rattle.number.specs.Stored.{Bytes}
use Rattle.tagset.specs.declared.TagSet.{TagSet}
use Rattle.packet.specs.Said.{header_at}
use Rattle.packet.specs.Verdict.{checked}
use Rattle.packet.specs.declared.Header.{Header}
use Rattle.packet.proofs.Walks.{header_lies}
use Rattle.walker.specs.Steps.{seen_by, part_by, next_by, begin_by, place_by, seen_at, part_at, next_at, start_place}
use Rattle.std.specs.Prelude.{Result}
use Rattle.packet.specs.declared.Accepted.{Accepted}
use Rattle.refusal.specs.declared.Refusal.{Refusal}

-- what the step at a place said, by the step's own case
module _ (p : List ℕ) (at : ℕ) (s x : Result Header Refusal) (e : answer_said s ≡ header_at p at) (f : s ≡ x) where
  said : header_at p at ≡ answer_said x
  said = sym e ∙ ap answer_said f

  pub seen_said : (K : TagSet) → seen_by K p (answer_said x) ≡ seen_at K p at
  unfolding seen_at
  seen_said K = ap (seen_by K p) (sym said)

  pub part_said : part_by p (answer_said x) ≡ part_at p at
  unfolding part_at
  part_said = ap (part_by p) (sym said)

  pub next_said : next_by at (answer_said x) ≡ next_at p at
  unfolding next_at
  next_said = ap (next_by at) (sym said)

  pub item_inside : Bytes p → (h : Header) → answer_said x ≡ given h → h.place + h.size ≤ length p
  item_inside by h g = (header_lies p at by h (said ∙ g)).inside

module _ (K : TagSet) (p : List ℕ) (c x : Result Accepted Refusal) (e : answer_said c ≡ checked K p) (f : c ≡ x) where
  pub begin-said : begin_by (answer_said x) ≡ begin_by (checked K p)
  begin-said = ap (λ y. begin_by (answer_said y)) (sym f) ∙ ap begin_by e

  pub place_said : place_by p (answer_said x) ≡ start_place K p
  unfolding start_place
  place_said = ap (λ y. place_by p (answer_said y)) (sym f) ∙ ap (place_by p) e
