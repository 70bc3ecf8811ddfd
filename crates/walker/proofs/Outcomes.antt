-- Each public function's contract determines its answer; of a part of the packet that is handed back it determines the bytes.
-- Where a walk was refused, its walker has no more.
-- Assumes nothing.
use Prim.Native.Nat.{ℕ}
use native.Mathlib.Omega.{arith}
use mathlib.Core.Path.{◌≡◌, refl, ap, sym, ◌∙◌}
use mathlib.Core.List.{List}
use lib.ListN.{length}
use seplogic.Ra.Ura.{Ura}
use base.Logic.{SProp}
use prog.Memory.{Memory}
use prog.Routine.{Routine}
use types.Logic.{Logic}
use contract.Monad.{Fun}
use denote.Ref.{Bor}
use Rattle.base.proofs.Cases.{never}
use Rattle.base.specs.Determined.{Answered, Read, Says}
use Rattle.refusal.specs.Answer.{Answer, given, refused, answer_said}
use Rattle.refusal.specs.declared.Refusal.{Refusal}
use Rattle.refusal.proofs.Laws.{answer_apart}
use Rattle.packet.specs.Verdict.{checked}
use Rattle.packet.specs.declared.Accepted.{Accepted}
use Rattle.walker.specs.Steps.{begin_by, place_by, start_place, found_seen, found_at}
use Rattle.tagset.specs.declared.TagSet.{TagSet}
use Rattle.walker.specs.Passes.{Starts, Passes}
use Rattle.walker.specs.declared.Walker.{Walker}
use Rattle.walker.specs.declared.Started.{Started}
use Rattle.walker.specs.declared.Passed.{Passed}
use Rattle.walker.proofs.Handed.{end_none}
use Rattle.walker.proofs.opened.Kinds as opened-kinds
use Rattle.walker.proofs.opened.Reads as opened-reads
use Rattle.walker.proofs.seen_at.Kinds as seen-at-kinds
use Rattle.walker.proofs.seen_at.Reads as seen-at-reads
use Rattle.walker.proofs.found_at.Kinds as found-at-kinds
use Rattle.walker.proofs.found_at.Reads as found-at-reads
use Rattle.walker.proofs.value_at.Kinds as value-at-kinds
use Rattle.walker.proofs.value_at.Reads as value-at-reads
use Rattle.walker.proofs.next_at.Kinds as next-at-kinds
use Rattle.walker.proofs.next_at.Reads as next-at-reads
use Rattle.walker.specs.contracts.start as start
use Rattle.walker.specs.contracts.next as next
use Rattle.walker.proofs.value_number.Kinds as value-number-kinds
use Rattle.walker.proofs.value_number.Reads as value-number-reads
use Rattle.std.specs.Prelude.{Err, None}

pub seen_at_determined : Answered 1 seen-at-kinds.ps seen-at-kinds.r seen-at-reads.Post
seen_at_determined κs a z z' e e' p q = p ∙ sym q

pub found_at_determined : Answered 1 found-at-kinds.ps found-at-kinds.r found-at-reads.Post
found_at_determined κs a z z' e e' p q = p ∙ sym q

pub value_at_determined : Read 1 value-at-kinds.ps value-at-kinds.r value-at-reads.Post (List ℕ) (λ κs z. z.now)
value_at_determined κs a z z' e e' p q = p ∙ sym q

pub next_at_determined : Answered 1 next-at-kinds.ps next-at-kinds.r next-at-reads.Post
next_at_determined κs a z z' e e' p q = p ∙ sym q

pub value_number_determined : Read 1 value-number-kinds.ps value-number-kinds.r value-number-reads.Post (List ℕ) (λ κs z. z.now)
value_number_determined κs a z z' e e' p q = p ∙ sym q

pub opened_determined : Answered 1 opened-kinds.ps opened-kinds.r opened-reads.Post
opened_determined κs a z z' e e' p q =
    let answer = answer_apart z.answer z'.answer (p.0 ∙ sym q.0) in
    let at = p.1 ∙ sym q.1 in
    λ i. record { answer = answer i; at = at i }

-- the contracts of `start` and `next` are `Starts` and `Passes`
module _ {M : Type 1} {𝓤 : Ura M} (𝓛 : Logic 𝓤) (mem : Memory → SProp 𝓤) (run : Routine → Fun 𝓤) where
  pub start_says : Says 𝓤 start.ended (start.clauses 𝓛 mem run) (λ κs a z e. Starts a.0 a.1.0 z)
  start_says κs a g z e = refl

  pub next_says : Says 𝓤 next.ended (next.clauses 𝓛 mem run) (λ κs a z e. Passes a.0 z)
  next_says κs a g z e = refl

pub start_determined : (s : Bor (List ℕ)) (known : TagSet) (r r' : Started) → Starts s known r → Starts s known r' → r ≡ r'
start_determined s known r r' p q =
    let a = answer_apart r.answer r'.answer (p.answer ∙ sym q.answer) in
    let w = p.walker ∙ sym q.walker in
    λ i. record { answer = a i; walker = w i }

pub next_determined : (w : Walker) (r r' : Passed) → Passes w r → Passes w r'
    → (r.found ≡ r'.found) × (r.value.now ≡ r'.value.now) × (r.rest ≡ r'.rest)
next_determined w r r' p q = (p.found ∙ sym q.found, p.value ∙ sym q.value, p.rest ∙ sym q.rest)

-- a walker whose start was refused stands at the packet's end, and a step finds no more
module _ (s : Bor (List ℕ)) (known : TagSet) (r : Started) (f : Refusal) (p : Starts s known r) (g : r.answer ≡ Err f) where
  at_end : (a : Answer Accepted) → checked known s.now ≡ a → place_by s.now a ≡ length s.now
  at_end (given a) e = let b : answer_said (Err f) ≡ given tt = sym (ap answer_said g) ∙ (p.answer ∙ ap begin_by e) in never (cc)
  at_end (refused n a t) e = refl

  pub refused_end : r.walker.at ≡ length s.now
  unfolding start_place
  refused_end = ap (λ w. w.at) p.walker ∙ at_end (checked known s.now) refl

  pub refused_none : (q : Passed) → Passes r.walker q → q.found ≡ None
  unfolding found_at
  refused_none q h = h.found ∙ ap found_seen (end_none _ _ _ (omega (arith, refused_end, ap length (ap (λ w. w.packet.now) p.walker))))
