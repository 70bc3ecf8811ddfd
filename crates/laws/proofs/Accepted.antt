-- A receiver accepts a packet exactly where document 01 allows it, and what is allowed has one reading.
-- Assumes nothing.
use Prim.Native.Nat.{ℕ}
use mathlib.Core.Path.{◌≡◌, refl}
use mathlib.Core.Bool.{true}
use mathlib.Core.List.{List}
use Rattle.refusal.specs.Answer.{given}
use Rattle.refusal.proofs.Answers.{not_given, given_same, passed, then_given}
use Rattle.number.specs.Stored.{Bytes}
use Rattle.tagset.specs.Sets.{holds}
use Rattle.tagset.specs.declared.TagSet.{TagSet}
use Rattle.knowing.specs.Good.{good}
use Rattle.packet.specs.Pieces.{Item, pieces}
use Rattle.packet.specs.Structure.{structure}
use Rattle.packet.specs.Judge.{Knowing, Judged, fine, faulty, no_version, judge}
use Rattle.packet.specs.Verdict.{placed, judged, verdict, received}
use Rattle.packet.specs.Allowed.{Allowed}
use Rattle.laws.proofs.Structure.{structure_formed, formed_structure}
use Rattle.laws.proofs.Clean.{fine_clean, clean_fine}

-- accepting is finding the items, and no fault in them
pub record Accepts (K : Knowing) (p : List ℕ) (is : List Item) : Type 0 where
  pub found : structure p ≡ given is
  pub faultless : judge K (pieces is) ≡ fine

module _ (K : Knowing) (p : List ℕ) (is : List Item) where
  -- who accepts has found the items and no fault in them, and the other way round
  pub accepts : verdict K p ≡ given is → Accepts K p is
  unfolding verdict
  accepts e =
      let v = then_given (structure p) (judged K) e in
      judging v.between (judge K (pieces v.between)) v.first refl v.second
    where
      judging : (js : List Item) (x : Judged) → structure p ≡ given js → judge K (pieces js) ≡ x → placed js x ≡ given is → Accepts K p is
      judging js fine f g h = rw (← given_same h) (record { found = f; faultless = g })
      judging js (faulty k n t) f g h = not_given h
      judging js no_version f g h = not_given h

  pub accepting : Accepts K p is → verdict K p ≡ given is
  unfolding verdict
  accepting a = rw (a.found, a.faultless)

  -- what a receiver accepts is allowed
  pub accepted_allowed : Bytes p → verdict K p ≡ given is → Allowed K p is
  accepted_allowed by e =
      let a = accepts e in
      record { formed = structure_formed p is by a.found; clean = fine_clean K (pieces is) a.faultless }

  -- what is allowed a receiver accepts
  pub allowed_accepted : Allowed K p is → verdict K p ≡ given is
  allowed_accepted a = accepting (record { found = formed_structure p is a.formed; faultless = clean_fine K (pieces is) a.clean })

-- the same over knowing sets of words
module _ (K : TagSet) (p : List ℕ) (is : List Item) where
  -- what is received is allowed, and the set is good
  pub received_allowed : Bytes p → received K p ≡ given is → (good K ≡ true) × Allowed (holds K) p is
  unfolding received
  received_allowed by e =
      let g = passed (good K) (verdict (holds K) p) 1 0 0 e in
      (g.0, accepted_allowed (holds K) p is by g.1)

  -- what is allowed is received by whoever has a good set
  pub allowed_received : good K ≡ true → Allowed (holds K) p is → received K p ≡ given is
  unfolding received
  allowed_received g a = rw g (allowed_accepted (holds K) p is a)

-- a packet has one reading: no rule leaves a choice of its items
pub one_reading : (K K' : Knowing) (p : List ℕ) (is js : List Item) → Allowed K p is → Allowed K' p js → is ≡ js
one_reading K K' p is js a b =
    let e = formed_structure p is a.formed in
    let f = formed_structure p js b.formed in
    cc
