-- What an accepted packet has: its items fill it from the first one's place on, and each known one has an allowed length and code.
-- Assumes nothing.
use Prim.Native.Nat.{ℕ, zero, suc, ◌+◌, ◌≤◌}
use native.Mathlib.Omega.{arith}
use mathlib.Core.Path.{◌≡◌, refl, ap, sym, ◌∙◌}
use mathlib.Core.Bool.{Bool, true, false, cond}
use mathlib.Core.List.{List, [], ◌∷◌}
use lib.Dec.{ltb}
use lib.ListN.{length, drop}
use Rattle.base.proofs.Cases.{by_bool, by_lt}
use Rattle.refusal.specs.Answer.{Answer, given, refused, then}
use Rattle.refusal.proofs.Answers.{not_given, given_same, passed, then_given}
use Rattle.number.specs.Stored.{Bytes, value_of}
use Rattle.tagset.specs.Sets.{holds}
use Rattle.tagset.specs.declared.TagSet.{TagSet}
use Rattle.knowing.specs.Good.{good}
use Rattle.catalogue.specs.Shapes.{shape_of, size_allowed, right_length, code_allowed}
use Rattle.packet.specs.Pieces.{Piece, Item, pieces, Step, no_tag, no_length, one, read_item, before, item_at, onward, walk}
use Rattle.packet.specs.Ends.{right_ends}
use Rattle.packet.specs.Structure.{frame, ends_of, last_sum, closed, structure}
use Rattle.packet.specs.Judge.{Knowing, among, Fault, clean, wrong, fault_of, Judged, fine, faulty, no_version, later, on_fault, judge_from, judge}
use Rattle.packet.specs.Verdict.{start_of, placed, judged, verdict, received}
use Rattle.packet.proofs.Frames.{too_long}
use Rattle.packet.proofs.Walked.{walked, first_start}

-- where the items begin, once they are found and closed
module _ (p : List ℕ) (by : Bytes p) where
  closed_given : (js is : List Item) → closed p js ≡ given is → (js ≡ is) × (right_ends (ends_of p is) ≡ given tt)
  closed_given js is e =
      let a = then_given (right_ends (ends_of p js)) _ e in
      let b = then_given (last_sum p js) _ a.second in
      let f : js ≡ is = given_same b.second in
      (f, ap (λ x. right_ends (ends_of p x)) (sym f) ∙ a.first)

  from_first : (from : ℕ) (is : List Item) → walk 128 from (drop from p) ≡ given is → right_ends (ends_of p is) ≡ given tt
      → walk 128 (start_of 0 is) (drop (start_of 0 is) p) ≡ given is
  unfolding right_ends
  from_first from [] w e = not_given e
  from_first from (i ∷ is) w e = ap (λ at. walk 128 at (drop at p)) (first_start p i is (walked p by 128 from (i ∷ is) w)) ∙ w

  pub structure_walk : (is : List Item) → structure p ≡ given is → walk 128 (start_of 0 is) (drop (start_of 0 is) p) ≡ given is
  unfolding structure
  structure_walk is e =
      let a = then_given (frame p) _ e in
      let b = then_given (walk 128 a.between (drop a.between p)) (closed p) a.second in
      let c = closed_given b.between is b.second in
      from_first a.between is (b.first ∙ ap given c.0) c.1

structure_short : (p : List ℕ) (is : List Item) → structure p ≡ given is → length p ≤ 8192
unfolding structure
structure_short p is e =
    by_lt 8192 (length p)
    (λ h. not_given (ap (λ a. then a (λ from. then (walk 128 from (drop from p)) (closed p))) (sym (too_long p h)) ∙ e))
    (λ h. h)

pub placed_given : (js is : List Item) (j : Judged) → placed js j ≡ given is → (js ≡ is) × (j ≡ fine)
placed_given js is fine e = (given_same e, refl)
placed_given js is (faulty k n t) e = not_given e
placed_given js is no_version e = not_given e

pub record Accepting (K : TagSet) (p : List ℕ) (is : List Item) : Type 0 where
  pub known : good K ≡ true
  pub found : structure p ≡ given is
  pub short : length p ≤ 8192
  pub fills : walk 128 (start_of 0 is) (drop (start_of 0 is) p) ≡ given is
  pub clean : judge (holds K) (pieces is) ≡ fine

pub accepting : (K : TagSet) (p : List ℕ) (is : List Item) → Bytes p → received K p ≡ given is → Accepting K p is
unfolding received verdict
accepting K p is by e =
    let g = passed (good K) _ 1 0 0 e in
    let v = then_given (structure p) (judged (holds K)) g.1 in
    let q = placed_given v.between is (judge (holds K) (pieces v.between)) v.second in
    let found : structure p ≡ given is = v.first ∙ ap given q.0 in
    record {
      known = g.0;
      found = found;
      short = structure_short p is found;
      fills = structure_walk p by is found;
      clean = ap (λ x. judge (holds K) (pieces x)) (sym q.0) ∙ q.1;
    }

-- each known item has an allowed length and code
pub record Fits (c : Piece) : Type 0 where
  pub size : right_length c.tag (length c.value) ≡ true
  pub code : code_allowed c.tag (length c.value) (value_of c.value) ≡ true

pub data AllFit (K : Knowing) : List Item → Type 0 where
  none_fits : AllFit K []
  one_fits : {i : Item} {is : List Item} → (K i.piece.tag ≡ true → Fits i.piece) → AllFit K is → AllFit K (i ∷ is)

fits_by : (sized twice coded : Bool) → cond sized (cond twice (wrong 13) (cond coded clean (wrong 14))) (wrong 12) ≡ clean → (sized ≡ true) × (coded ≡ true)
fits_by true true coded e = let z : ◌≡◌ {A = ℕ} 0 1 = cc in absurd (omega arith)
fits_by true false true e = (refl, refl)
fits_by true false false e = let z : ◌≡◌ {A = ℕ} 0 1 = cc in absurd (omega arith)
fits_by false twice coded e = let z : ◌≡◌ {A = ℕ} 0 1 = cc in absurd (omega arith)

fits_if_clean : (K seen : Knowing) (c : Piece) → fault_of K seen c ≡ clean → K c.tag ≡ true → Fits c
unfolding fault_of right_length
fits_if_clean K seen c e k =
    let n = length c.value in
    let f = fits_by (size_allowed c.tag (shape_of c.tag) n) (seen c.tag) (code_allowed c.tag n (value_of c.value)) (rw k at e) in
    record { size = f.0; code = f.1 }

later_fine : (j : Judged) → later j ≡ fine → j ≡ fine
later_fine fine e = refl
later_fine (faulty k n t) e = let z : ◌≡◌ {A = ℕ} 0 1 = cc in absurd (omega arith)
later_fine no_version e = let z : ◌≡◌ {A = ℕ} 0 1 = cc in absurd (omega arith)

clean_first : (f : Fault) (t : ℕ) (j : Judged) → on_fault f t j ≡ fine → (f ≡ clean) × (j ≡ fine)
clean_first clean t j e = (refl, later_fine j e)
clean_first (wrong n) t j e = let z : ◌≡◌ {A = ℕ} 0 1 = cc in absurd (omega arith)

pub fine_fit : (K : Knowing) (seen : List ℕ) (is : List Item) → judge_from K seen (pieces is) ≡ fine → AllFit K is
unfolding judge_from
fine_fit K seen [] e = none_fits
fine_fit K seen (i ∷ is) e =
    let q = clean_first (fault_of K (among seen) i.piece) i.piece.tag (judge_from K (i.piece.tag ∷ seen) (pieces is)) e in
    one_fits (fits_if_clean K (among seen) i.piece q.0) (fine_fit K (i.piece.tag ∷ seen) is q.1)

-- a walk of at most n items finds no more
few_before : (i : Item) (n : ℕ) (w : Answer (List Item)) (is : List Item) → ((js : List Item) → w ≡ given js → length js ≤ n) → before i w ≡ given is
    → length is ≤ suc n
few_before i n (given js) is h e = let f : i ∷ js ≡ is = cc in rw (← f) (omega (arith, h js refl))
few_before i n (refused r a t) is h e = not_given e

few_onward : (n at : ℕ) (l : List ℕ) (s : Step) (is : List Item) → ((a : ℕ) (r : List ℕ) (js : List Item) → walk n a r ≡ given js → length js ≤ n)
    → onward (λ a r. walk n a r) at l s ≡ given is → length is ≤ suc n
few_onward n at l no_tag is h e = not_given e
few_onward n at l (no_length t) is h e = not_given e
few_onward n at l (one t k m) is h e =
    few_before (item_at at l t k m) n (walk n (at + (k + m)) (drop (k + m) l)) is (λ js f. h (at + (k + m)) (drop (k + m) l) js f) e

none_few : (n : ℕ) (is : List Item) → given [] ≡ given is → length is ≤ n
none_few n is e = let f : [] ≡ is = cc in rw (← f) (omega arith)

pub walk_few : (n at : ℕ) (l : List ℕ) (is : List Item) → walk n at l ≡ given is → length is ≤ n
unfolding walk
walk_few zero at l is e = by_bool (ltb 0 (length l)) (λ b. not_given (rw b at e)) (λ b. none_few 0 is (rw b at e))
walk_few (suc n) at l is e =
    by_bool (ltb 0 (length l))
    (λ b. few_onward n at l (read_item l) is (λ a r js f. walk_few n a r js f) (rw b at e))
    (λ b. none_few (suc n) is (rw b at e))
