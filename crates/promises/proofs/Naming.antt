-- A refusal for what is known of an item names an item of the packet: its start and its tag.
-- Assumes nothing.
use Prim.Native.Nat.{ℕ, zero, suc, ◌≤◌}
use mathlib.Core.Path.{◌≡◌, refl, ap}
use mathlib.Core.Bool.{Bool, true, false, cond}
use mathlib.Core.List.{List, [], ◌∷◌}
use lib.ListN.{length}
use Rattle.base.proofs.Cases.{never}
use Rattle.refusal.specs.Answer.{given, refused}
use Rattle.tagset.specs.Sets.{holds}
use Rattle.tagset.specs.declared.TagSet.{TagSet}
use Rattle.knowing.specs.Good.{good}
use Rattle.packet.specs.Pieces.{Piece, Item, pieces}
use Rattle.packet.specs.Judge.{Knowing, has, among, Fault, clean, wrong, fault_of, Judged, fine, faulty, no_version, on_fault, judge_from, judge}
use Rattle.packet.specs.Verdict.{start_of, placed, verdict, received}
use Rattle.packet.specs.Rows.{read_answer}
use Rattle.laws.proofs.Accepted.{accepts}
use Rattle.laws.proofs.Tables.{received_refused}
use Rattle.promises.specs.Words.{Starts}

one_further : (i : Item) {is : List Item} {place tag : ℕ} → Starts is place tag → Starts (i ∷ is) place tag
one_further i s =
    record { item = s.item; before = i ∷ s.before; after = s.after; among = ap (λ l. i ∷ l) s.among; start = s.start; named = s.named }

-- the index of the first fault is that of an item that has the fault's tag
fault_names : (K : Knowing) (seen : List ℕ) (is : List Item) (k n t : ℕ) → judge_from K seen (pieces is) ≡ faulty k n t → Starts is (start_of k is) t
unfolding judge_from
fault_names K seen [] k n t e = none (has 65 seen) e
  where
    none : (b : Bool) → cond b fine no_version ≡ faulty k n t → Starts [] (start_of k []) t
    none true e = never (cc)
    none false e = never (cc)
fault_names K seen (i ∷ is) k n t e =
    first (fault_of K (among seen) i.piece) (judge_from K (i.piece.tag ∷ seen) (pieces is)) (fault_names K (i.piece.tag ∷ seen) is) e
  where
    first : (f : Fault) (j : Judged) → ((k n t : ℕ) → j ≡ faulty k n t → Starts is (start_of k is) t)
        → on_fault f i.piece.tag j ≡ faulty k n t → Starts (i ∷ is) (start_of k (i ∷ is)) t
    first (wrong m) j rest e =
        let k0 : zero ≡ k = cc in
        let tag : i.piece.tag ≡ t = cc in
        rw (← k0) (record { item = i; before = []; after = is; among = refl; start = refl; named = tag })
    first clean fine rest e = never (cc)
    first clean no_version rest e = never (cc)
    first clean (faulty l m u) rest e =
        let kl : suc l ≡ k = cc in
        let tag : u ≡ t = cc in
        rw (← kl, ← tag) (one_further i (rest l m u refl))

-- whether an item 65 is there does not depend on who looks
version_for_all : (K K' : Knowing) (seen : List ℕ) (cs : List Piece) → judge_from K seen cs ≡ fine → judge_from K' seen cs ≡ no_version → ⊥
unfolding judge_from
version_for_all K K' seen [] e f = both (has 65 seen) e f
  where
    both : (b : Bool) → cond b fine no_version ≡ fine → cond b fine no_version ≡ no_version → ⊥
    both true e f = never (cc)
    both false e f = never (cc)
version_for_all K K' seen (c ∷ cs) e f =
    version_for_all K K' (c.tag ∷ seen) cs (rest_fine (fault_of K (among seen) c) _ e) (rest_none (fault_of K' (among seen) c) _ f)
  where
    rest_fine : (x : Fault) (j : Judged) → on_fault x c.tag j ≡ fine → j ≡ fine
    rest_fine (wrong n) j e = never (cc)
    rest_fine clean fine e = refl
    rest_fine clean (faulty k n t) e = never (cc)
    rest_fine clean no_version e = never (cc)

    rest_none : (x : Fault) (j : Judged) → on_fault x c.tag j ≡ no_version → j ≡ no_version
    rest_none (wrong n) j e = never (cc)
    rest_none clean fine e = never (cc)
    rest_none clean (faulty k n t) e = never (cc)
    rest_none clean no_version e = refl

-- what one receiver accepts, another that refuses it refuses at one of its items
pub refusal_names : (K K' : Knowing) (p : List ℕ) (is : List Item) (n a u : ℕ) → verdict K p ≡ given is → verdict K' p ≡ refused n a u → Starts is a u
unfolding verdict judge
refusal_names K K' p is n a u e f =
    let s = accepts K p is e in
    by_fault (judge K' (pieces is)) refl (rw s.found at f) s.faultless
  where
    by_fault : (j : Judged) → judge_from K' [] (pieces is) ≡ j → placed is j ≡ refused n a u → judge_from K [] (pieces is) ≡ fine → Starts is a u
    by_fault fine g h c = never (cc)
    by_fault (faulty k m t) g h c =
        let place : start_of k is ≡ a = cc in
        let tag : t ≡ u = cc in
        rw (← place, ← tag) (fault_names K' [] is k m t g)
    by_fault no_version g h c = absurd (version_for_all K K' [] (pieces is) c g)

-- a refusal of who has a good set and a table of at least 512 words is the verdict's
pub verdict_refused : (K : TagSet) (p t : List ℕ) → good K ≡ true → 512 ≤ length t → (n a u : ℕ) → read_answer K p t ≡ refused n a u
    → verdict (holds K) p ≡ refused n a u
unfolding received
verdict_refused K p t g long n a u e = rw g at (received_refused K p t long n a u e)
