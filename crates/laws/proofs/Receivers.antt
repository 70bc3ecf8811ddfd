-- Two receivers, of which one knows all that the other knows: they give the same verdict, or the larger refuses at a tag that only it
-- knows.
-- Assumes nothing.
use Prim.Native.Nat.{ℕ, ◌<◌}
use native.Mathlib.Omega.{arith}
use mathlib.Core.Path.{◌≡◌, refl, sym, ◌∙◌}
use mathlib.Core.Bool.{true, false}
use mathlib.Core.List.{List, [], ◌∷◌}
use Rattle.base.proofs.Cases.{by_bool, by_eq, clash, never}
use Rattle.refusal.specs.Answer.{Answer, given, refused, then}
use Rattle.tagset.specs.Sets.{holds}
use Rattle.tagset.specs.declared.TagSet.{TagSet}
use Rattle.tagset.proofs.Laws.{Words, Included}
use Rattle.catalogue.specs.Items.{groups, member, item_in, item_of}
use Rattle.knowing.specs.Good.{in_catalogue, good}
use Rattle.knowing.proofs.Laws.{good_means}
use Rattle.packet.specs.Pieces.{Piece, Item, pieces}
use Rattle.packet.specs.Structure.{structure}
use Rattle.packet.specs.Judge.{Knowing, among, Fault, clean, wrong, fault_of, Judged, faulty, later, on_fault, judge_from, judge}
use Rattle.packet.specs.Verdict.{placed, judged, verdict, received}
use Rattle.laws.specs.Receivers.{Below, Only}

data TwoJudged (K K' : Knowing) : Judged → Judged → Type 0 where
  agreed : {j : Judged} → TwoJudged K K' j j
  found : {j : Judged} {k n t : ℕ} → Only K K' t → TwoJudged K K' j (faulty k n t)

-- what K answers, and what K' answers
pub data Two (K K' : Knowing) : Answer (List Item) → Answer (List Item) → Type 0 where
  agree : {a : Answer (List Item)} → Two K K' a a
  refuses : {a : Answer (List Item)} {n p t : ℕ} → Only K K' t → Two K K' a (refused n p t)

module _ (K K' : Knowing) (below : Below K K') where
  two_later : {i j : Judged} → TwoJudged K K' i j → TwoJudged K K' (later i) (later j)
  two_later agreed = agreed
  two_later (found o) = found o

  fault_known : (seen : Knowing) (c : Piece) → K c.tag ≡ true → fault_of K seen c ≡ fault_of K' seen c
  unfolding fault_of
  fault_known seen c e = rw (e, below c.tag e)

  fault_unknown : (K seen : Knowing) (c : Piece) → K c.tag ≡ false → fault_of K seen c ≡ clean
  unfolding fault_of
  fault_unknown K seen c e = rw e

  two_judged : (seen : List ℕ) (cs : List Piece) → TwoJudged K K' (judge_from K seen cs) (judge_from K' seen cs)
  unfolding judge_from
  two_judged seen [] = agreed
  two_judged seen (c ∷ cs) =
      by_bool (K c.tag)
      (λ k. rw (fault_known (among seen) c k) (known (fault_of K' (among seen) c) (two_judged (c.tag ∷ seen) cs)))
      (λ k. rw (fault_unknown K (among seen) c k) (by_bool (K' c.tag)
      (λ k'. unknown (record { unknown = k; known = k' }) (fault_of K' (among seen) c) (two_judged (c.tag ∷ seen) cs))
      (λ k'. rw (fault_unknown K' (among seen) c k') (two_later (two_judged (c.tag ∷ seen) cs)))))
    where
      known : {i j : Judged} (x : Fault) → TwoJudged K K' i j → TwoJudged K K' (on_fault x c.tag i) (on_fault x c.tag j)
      known clean r = two_later r
      known (wrong n) r = agreed

      unknown : {i j : Judged} → Only K K' c.tag → (x : Fault) → TwoJudged K K' i j → TwoJudged K K' (later i) (on_fault x c.tag j)
      unknown o clean r = two_later r
      unknown o (wrong n) r = found o

  -- the two verdicts are the same, or the larger refuses at a tag that only it knows
  pub two_verdicts : (p : List ℕ) → Two K K' (verdict K p) (verdict K' p)
  unfolding verdict judge
  two_verdicts p = go (structure p)
    where
      place : (is : List Item) {i j : Judged} → TwoJudged K K' i j → Two K K' (placed is i) (placed is j)
      place is agreed = agree
      place is (found o) = refuses o

      go : (a : Answer (List Item)) → Two K K' (then a (judged K)) (then a (judged K'))
      go (refused n p t) = agree
      go (given is) = place is (two_judged [] (pieces is))

two_given : {K K' : Knowing} {a b : Answer (List Item)} {is : List Item} → Two K K' a b → b ≡ given is → a ≡ given is
two_given agree e = e
two_given (refuses o) e = never (cc)

two_refused : {K K' : Knowing} {a b : Answer (List Item)} {is : List Item} {n p t : ℕ} → Two K K' a b → a ≡ given is → b ≡ refused n p t → Only K K' t
two_refused agree e f = never (cc)
two_refused {t} (refuses {t = u} o) e f = let same : u ≡ t = cc in rw (← same) o

module _ (K K' : Knowing) (below : Below K K') (p : List ℕ) (is : List Item) where
  -- what the larger accepts, the smaller accepts with the same items
  pub larger_accepts : verdict K' p ≡ given is → verdict K p ≡ given is
  larger_accepts e = two_given (two_verdicts K K' below p) e

  -- what the smaller accepts and the larger refuses, it refuses at a tag that only it knows
  pub larger_refuses : (n a t : ℕ) → verdict K p ≡ given is → verdict K' p ≡ refused n a t → Only K K' t
  larger_refuses n a t e f = two_refused (two_verdicts K K' below p) e f

-- 0 is in no catalogue
no_zero : in_catalogue 0 ≡ false
unfolding groups member item_in item_of in_catalogue
no_zero = refl

-- demand 3, first half: two good knowing sets of words, one included in the other
module _ (K K' : TagSet) (g : good K ≡ true) (g' : good K' ≡ true) (within : Included K K') where
  -- the same answer, or the larger refuses at a tag that only it knows
  pub two_received : (p : List ℕ) → Two (holds K) (holds K') (received K p) (received K' p)
  unfolding received
  two_received p = rw (g, g') (two_verdicts (holds K) (holds K') within.each p)

  module _ (p : List ℕ) (is : List Item) where
    -- a packet that the larger set accepts the smaller accepts, with the same items
    pub received_larger : received K' p ≡ given is → received K p ≡ given is
    received_larger e = two_given (two_received p) e

    -- a packet that only the larger refuses it refuses at a tag that only it knows
    pub received_only : (n a t : ℕ) → received K p ≡ given is → received K' p ≡ refused n a t → Only (holds K) (holds K') t
    received_only n a t e f = two_refused (two_received p) e f

-- a tag that only one of two receivers knows is a catalogue tag, so not the 0 of a refusal that has none
pub only_tag : (K K' : TagSet) (t : ℕ) → Words K' → good K' ≡ true → Only (holds K) (holds K') t → (in_catalogue t ≡ true) × (0 < t)
only_tag K K' t w g o =
    let e : in_catalogue t ≡ true = (good_means K' w g).only t o.known in
    (e, by_eq t 0 (λ z. clash (sym (rw z at e) ∙ no_zero)) (λ z. omega arith))
