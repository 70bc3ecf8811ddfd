-- What a walk at a glance comes to: first, last and sum of its items, and then the receiver's judgement.
-- Assumes nothing.
use Prim.Native.Nat.{ℕ, zero, suc, ◌+◌, ◌-◌, ◌≤◌}
use native.Mathlib.Omega.{arith}
use native.Mathlib.Nat.{zero-add}
use mathlib.Core.Path.{◌≡◌, refl, ap, ap₂, sym, ◌∙◌}
use mathlib.Core.Bool.{Bool, true}
use mathlib.Core.List.{List, [], ◌∷◌}
use lib.Dec.{eqb}
use borrow.Author.Tests.{eqb-true}
use lib.ListN.{length, take, drop, get_or, set, replicate}
use Rattle.base.proofs.Cases.{by_bool}
use Rattle.base.proofs.Every.{both_left, both_right}
use Rattle.base.proofs.Parts.{nil_at}
use Rattle.refusal.specs.Answer.{Answer, given, refused, map, then, or_else}
use Rattle.refusal.proofs.Answers.{not_given, given_same, passed, then_given, then_then, map_given, map_refused, map_then}
use Rattle.number.specs.Stored.{Bytes}
use Rattle.ber.specs.Read.{read_tag}
use Rattle.tagset.specs.Sets.{no_tags, holds, size}
use Rattle.tagset.specs.declared.TagSet.{TagSet}
use Rattle.tagset.proofs.Laws.{Words}
use Rattle.tagset.proofs.Counting.{size_none}
use Rattle.knowing.specs.Good.{good}
use Rattle.knowing.proofs.Laws.{good_means}
use Rattle.catalogue.specs.Extended.{is_extended}
use Rattle.rows.specs.Present.{present_in, withdrawn_in}
use Rattle.packet.specs.Pieces.{Item, pieces, read_item, walk}
use Rattle.packet.specs.Seen.{rows_of}
use Rattle.packet.specs.Judge.{judge}
use Rattle.packet.specs.Ends.{right_ends}
use Rattle.packet.specs.Structure.{frame, last_of, ends_of, right_sum, last_sum, closed, structure}
use Rattle.packet.specs.Encode.{longer_of}
use Rattle.packet.specs.Verdict.{one_byte, start_of, judged, body_of, verdict, received, found_at, no_places, places_from, checked, located_of, located}
use Rattle.packet.specs.Said.{header_at}
use Rattle.packet.specs.code.Headers.{header_of}
use Rattle.packet.specs.code.Passing.{Kept, kept, fresh_at, kept_from, Passes}
use Rattle.packet.specs.code.Concluded.{begun_by, no_header, header_in, ends_by, closed_by, items_at, bare, right_from, judged_from}
use Rattle.packet.specs.code.Concluded.{whole_in, coded_in, clean_in, PlacesIn, Whole, Begins}
use Rattle.packet.specs.declared.Header.{Header}
use Rattle.packet.specs.declared.Accepted.{Accepted}
use Rattle.packet.proofs.Frames.{framed_given}
use Rattle.packet.proofs.Walks.{walk_end, kept_none, header_lies, header_back}
use Rattle.packet.proofs.Walked.{Walked, done, went, walked, Within, last_within, first_start, header_start}
use Rattle.packet.proofs.Passing.{kept_count, kept_longer, kept_last, kept_places, kept_present, kept_withdrawn, tracks_none, marks_none}
use Rattle.packet.proofs.Passing.{glance_clean}
use Rattle.packet.proofs.Accepting.{AllFit, fine_fit, placed_given}

-- no item stands past the end
past_none : (p : List ℕ) (at : ℕ) → length p ≤ at → header_in p at ≡ no_header
unfolding header_at read_item read_tag
past_none p at h = rw (nil_at p at h)

-- first, last and sum, and then something
bare_closed : (is : List Item) (ends sum : Answer (Unit {0})) (next : List Item → Answer (List Item))
    → bare (then (then ends (λ _. then sum (λ _. given is))) next) ≡ then (then ends (λ _. sum)) (λ _. bare (next is))
bare_closed is (given x) (given y) next = refl
bare_closed is (given x) (refused n a t) next = refl
bare_closed is (refused n a t) sum next = refl

-- what is written into a list is as small as what stood there
set_within : (l : List ℕ) (i a m j : ℕ) → a ≤ m → ((t : ℕ) → get_or l t 0 ≤ m) → get_or (set l i a) j 0 ≤ m
set_within [] i a m j h k = k j
set_within (x ∷ xs) zero a m zero h k = h
set_within (x ∷ xs) zero a m (suc j) h k = k (suc j)
set_within (x ∷ xs) (suc i) a m zero h k = k zero
set_within (x ∷ xs) (suc i) a m (suc j) h k = set_within xs i a m j h (λ t. k (suc t))

none_within : (n m t : ℕ) → get_or (replicate n 0) t 0 ≤ m
none_within zero m t = omega arith
none_within (suc n) m zero = omega arith
none_within (suc n) m (suc t) = none_within n m t

-- what is closed and judged are the items themselves
record Accepts (K : TagSet) (p : List ℕ) (is js : List Item) : Type 0 where
  ends : right_ends (ends_of p is) ≡ given tt
  same : js ≡ is
  fits : AllFit (holds K) is

accepts : (K : TagSet) (p : List ℕ) (is js : List Item) → then (closed p is) (judged (holds K)) ≡ given js → Accepts K p is js
unfolding judge
accepts K p is js e =
    let b = then_given (closed p is) (judged (holds K)) e in
    let c = then_given (right_ends (ends_of p is)) _ b.first in
    let d = then_given (last_sum p is) _ c.second in
    let f = placed_given b.between js (judge (holds K) (pieces b.between)) b.second in
    let same : b.between ≡ is = sym (given_same d.second) in
    record {
      ends = c.first;
      same = sym f.0 ∙ same;
      fits = fine_fit (holds K) [] is (rw same at f.1);
    }

-- where the last item starts; where there is none, where the items begin
abbrev last_start : ℕ → List Item → ℕ
last_start from [] = from
last_start from (i ∷ is) = (last_of i is).start

module _ (p : List ℕ) (by : Bytes p) (from : ℕ) (inside : from ≤ length p) where
  -- the header that the code finds there, and what first, last and sum are by it
  record Closed (is : List Item) (z : Header) : Type 0 where
    lies : z.place + z.size ≤ length p
    ends : right_ends (ends_by p from z) ≡ right_ends (ends_of p is)
    sum : right_ends (ends_of p is) ≡ given tt → right_sum p z.place (take z.size (drop z.place p)) ≡ last_sum p is

  closed_none : length p ≤ from → Closed [] no_header
  unfolding right_ends
  closed_none h =
      let e : from ≡ length p = omega arith in
      record { lies = omega arith; ends = rw (past_none p from h, e); sum = λ q. not_given q }

  closed_some : (i : Item) (is : List Item) → Walked p from (i ∷ is) → (v : Within p (last_of i is)) → Closed (i ∷ is) v.header
  closed_some i is (went h e rest) v =
      let z = last_of i is in
      let header : v.header ≡ header_of z = sym (ap header_of v.item ∙ header_back p v.header v.inside) in
      let value : take v.header.size (drop v.header.place p) ≡ z.piece.value = ap (λ j. j.piece.value) (sym v.item) in
      let first : header_in p from ≡ h = ap (or_else no_header (λ g. g)) e in
      record {
        lies = v.inside;
        ends = rw (header, first, header_start p from h e);
        sum = λ _. rw (value, header);
      }

  closed_at : (is : List Item) → Walked p from is → Closed is (header_in p (last_start from is))
  closed_at [] (done h) = rw (past_none p from h) (closed_none h)
  closed_at (i ∷ is) w =
      let v = last_within p by i is w in
      rw v.found (closed_some i is w v)

  -- first, last and sum by the code are the definition's
  closed_same : (is : List Item) (z : Header) → Closed is z → closed_by p from z ≡ then (right_ends (ends_of p is)) (λ _. last_sum p is)
  unfolding closed_by
  closed_same is z c = rw c.ends (go (right_ends (ends_of p is)) refl)
    where
      go : (a : Answer (Unit {0})) → right_ends (ends_of p is) ≡ a
          → then a (λ _. right_sum p z.place (take z.size (drop z.place p))) ≡ then a (λ _. last_sum p is)
      go (given tt) e = c.sum e
      go (refused n a t) e = refl

  -- all values are found in the packet
  places_in : (l : List ℕ) {at : ℕ} (is : List Item) → Walked p at is → PlacesIn (length p) l → PlacesIn (length p) (places_from l is)
  unfolding places_from
  places_in l [] w h = h
  places_in l {at} (i ∷ is) (went g e rest) h =
      let lies = header_lies p at by g e in
      let size : length (take g.size (drop g.place p)) ≡ g.size = ap (λ z. z.size) (header_back p g lies.inside) in
      let found : found_at g.tag g.place g.size ≤ length p =
      by_bool (eqb g.size 0) (λ z. rw z (omega arith)) (λ z. rw z (by_bool (is_extended g.tag)
      (λ x. rw x (omega (arith, lies.inside)))
      (λ x. rw x lies.inside))) in
      places_in (set l (one_byte g.tag) (found_at g.tag g.place (length (take g.size (drop g.place p))))) is rest (record {
        inside =
            λ t. set_within l _ _ (length p) t (rw size found) h.inside;
      })

module _ (K : TagSet) (words : Words K) (p : List ℕ) (by : Bytes p) (from : ℕ) (k : Kept) (w : Whole K p from k) where
  -- before the first item
  abbrev fresh : Kept
  fresh = fresh_at from no_places no_tags no_tags

  went_all : Walked p from w.items
  went_all = walked p by 128 from w.items w.walked

  last_place : (is : List Item) → (kept_from K fresh is).passed.last ≡ last_start from is
  unfolding kept_from
  last_place [] = refl
  last_place (i ∷ is) = kept_last K fresh i is

  abbrev last : Header
  last = header_in p k.passed.last

  closed_last : Closed p by from w.inside w.items last
  closed_last =
      let e : last_start from w.items ≡ k.passed.last = sym (last_place w.items) ∙ ap (λ j. j.passed.last) w.keeps in
      rw e at (closed_at p by from w.inside w.items went_all)

  pub last_inside : last.place + last.size ≤ length p
  last_inside = closed_last.lies

  places_are : places_from no_places w.items ≡ k.places
  places_are = sym (kept_places K fresh w.items) ∙ ap (λ j. j.places) w.keeps

  pub places_inside : PlacesIn (length p) k.places
  places_inside = rw places_are at (places_in p by from w.inside no_places w.items went_all (record { inside = none_within 128 (length p) }))

  -- first, last and sum, and then the judgement
  pub right_by : right_from K p from ≡ then (closed_by p from last) (λ _. judged_from K p from)
  right_by =
      rw (w.walked, closed_same p by from w.inside w.items last closed_last)
      (bare_closed w.items (right_ends (ends_of p w.items)) (last_sum p w.items) (judged (holds K)))

  -- as many tags noted as known items: the judgement is that nothing is wrong
  pub clean_right : clean_in K p k.places k.present k.passed.known ≡ true → judged_from K p from ≡ given tt
  unfolding clean_in judge
  clean_right e =
      let places = k.places in
      let counts : Bool = eqb (size k.present) k.passed.known in
      let a = both_right counts _ e in
      let b = both_right (whole_in places) _ a in
      let even : size k.present ≡ k.passed.known = eqb-true _ _ (both_left counts _ e) in
      let knows = good_means K words w.known in
      let fine = glance_clean K knows words p by places (both_left (whole_in places) _ a)
      (both_left (coded_in K p places 34) _ b) (both_right (coded_in K p places 34) _ b)
      fresh [] w.items tracks_none (marks_none K knows words) (sym size_none) went_all
      (ap (λ j. j.passed.known) w.keeps ∙ (sym even ∙ ap (λ j. size j.present) (sym w.keeps))) (ap (λ j. j.places) w.keeps) in
      rw (w.walked, fine)

  -- what the answer is made of
  abbrev pub walked_answer : Answer (List Item)
  walked_answer = then (closed p w.items) (judged (holds K))

  pub by_items : map (body_of (holds K)) (then (walk 128 from (drop from p)) (λ is.
      then (closed p is) (judged (holds K)))) ≡ map (body_of (holds K)) walked_answer
  by_items = rw w.walked

  pub by_right : right_from K p from ≡ bare walked_answer
  by_right = rw w.walked

  -- a refusal is passed on
  pub right_refused : (n a t : ℕ) → right_from K p from ≡ refused n a t
      → map (body_of (holds K)) (then (walk 128 from (drop from p)) (λ is. then (closed p is) (judged (holds K)))) ≡ refused n a t
  right_refused n a t e = by_items ∙ ap (map (body_of (holds K))) (map_refused (λ _. tt) walked_answer n a t (sym by_right ∙ e))

  -- an accepted packet begins with its first item
  starts : (is : List Item) → Walked p from is → right_ends (ends_of p is) ≡ given tt → start_of 0 is ≡ from
  unfolding right_ends
  starts [] v e = not_given e
  starts (i ∷ is) v e = first_start p i is v

  pub right_given : right_from K p from ≡ given tt
      → map (body_of (holds K)) (then (walk 128 from (drop from p)) (λ is. then (closed p is) (judged (holds K))))
      ≡ given (record { from = from; count = k.passed.count; longer = k.passed.longer; present = k.present; withdrawn = k.withdrawn })
  unfolding present_in withdrawn_in
  right_given e =
      let a = map_given (λ _. tt) walked_answer (sym by_right ∙ e) in
      let b = accepts K p w.items a.0 a.1 in
      let knows = good_means K words w.known in
      let count : length w.items ≡ k.passed.count =
      sym (kept_count K fresh w.items ∙ zero-add (length w.items)) ∙ ap (λ j. j.passed.count) w.keeps in
      let longer : longer_of w.items ≡ k.passed.longer =
      sym (kept_longer K fresh w.items ∙ zero-add (longer_of w.items)) ∙ ap (λ j. j.passed.longer) w.keeps in
      let noted : present_in (rows_of (holds K) w.items) ≡ k.present =
      sym (kept_present K knows words fresh w.items b.fits) ∙ ap (λ j. j.present) w.keeps in
      let empty : withdrawn_in (rows_of (holds K) w.items) ≡ k.withdrawn =
      sym (kept_withdrawn K knows words fresh w.items) ∙ ap (λ j. j.withdrawn) w.keeps in
      by_items ∙ (ap (map (body_of (holds K))) (a.1 ∙ ap given b.same) ∙ rw (starts w.items went_all b.ends, count, longer, noted, empty))

  pub places_items : k.places ≡ places_from no_places (items_at p from)
  places_items = sym (rw w.walked places_are)

-- a walk that has come to the packet's end, and one that has stopped before
module _ (K : TagSet) (p : List ℕ) (from : ℕ) (before : List ℕ) (b : Begins K p from before) (k : Kept)
    (e : Passes K p (fresh_at from before no_tags no_tags) k) where
  abbrev here : ℕ
  here = k.passed.here

  abbrev left : ℕ
  left = 128 - k.passed.count

  goes_on : kept K k (walk left here (drop here p)) ≡ kept K (fresh_at from no_places no_tags no_tags) (walk 128 from (drop from p))
  goes_on = e.goes ∙ ap (λ l. kept K (fresh_at from l no_tags no_tags) (walk 128 from (drop from p))) b.none

  pub passes_whole : length p ≤ here → Whole K p from k
  passes_whole h =
      let w = map_given (kept_from K (fresh_at from no_places no_tags no_tags)) (walk 128 from (drop from p))
      (sym goes_on ∙ (ap (kept K _) (walk_end p here left h) ∙ kept_none K _)) in
      record { known = b.known; inside = b.inside; items = w.0; walked = w.1; keeps = w.2 }

  pub passes_refused : (n a t : ℕ) → walk left here (drop here p) ≡ refused n a t
      → map (body_of (holds K)) (then (walk 128 from (drop from p)) (λ is. then (closed p is) (judged (holds K)))) ≡ refused n a t
  passes_refused n a t f =
      ap (λ x. map (body_of (holds K)) (then x (λ is. then (closed p is) (judged (holds K)))))
      (map_refused (kept_from K (fresh_at from no_places no_tags no_tags)) (walk 128 from (drop from p)) n a t (sym goes_on ∙ ap (kept K _) f))

-- the verdict and the check, by where the items begin
abbrev items_from : TagSet → List ℕ → ℕ → Answer (List Item)
items_from K p from = then (walk 128 from (drop from p)) (λ is. then (closed p is) (judged (holds K)))

received_begun : (K : TagSet) (p : List ℕ) → received K p ≡ then (begun_by K p) (items_from K p)
unfolding received verdict structure
received_begun K p = by_bool (good K) (λ e. rw e (go (frame p))) (λ e. rw e)
  where
    go : (a : Answer ℕ) → then (then a (λ from. then (walk 128 from (drop from p)) (closed p))) (judged (holds K)) ≡ then a (items_from K p)
    go (given from) = then_then (walk 128 from (drop from p)) (closed p) (judged (holds K))
    go (refused n a t) = refl

-- what is made of the items that are received, by where they begin
received_from : {B : Type 0} (f : List Item → B) (K : TagSet) (p : List ℕ) (a : Answer ℕ) → begun_by K p ≡ a
    → map f (received K p) ≡ then a (λ from. map f (items_from K p from))
received_from f K p a e = ap (map f) (received_begun K p ∙ ap (λ x. then x (items_from K p)) e) ∙ map_then f a (items_from K p)

pub checked_begun : (K : TagSet) (p : List ℕ) (a : Answer ℕ) → begun_by K p ≡ a → checked K p ≡ then a (λ from. map (body_of (holds K)) (items_from K p from))
unfolding checked
checked_begun K = received_from (body_of (holds K)) K

pub located_begun : (K : TagSet) (p : List ℕ) (a : Answer ℕ) → begun_by K p ≡ a → located K p ≡ then a (λ from. map (located_of (holds K)) (items_from K p from))
unfolding located
located_begun K = received_from (located_of (holds K)) K

-- a packet of a right frame
pub begins : (K : TagSet) (p : List ℕ) (from : ℕ) → begun_by K p ≡ given from → Begins K p from no_places
begins K p from e =
    let a = passed (good K) (frame p) 1 0 0 e in
    let f = framed_given p from a.1 in
    record { known = a.0; some = omega (arith, f.some); short = f.short; inside = f.inside; none = refl }

-- where the values are found, if a packet is accepted
module _ (K : TagSet) (p : List ℕ) (from : ℕ) (e : begun_by K p ≡ given from) where
  pub located_refused : (n a t : ℕ) → map (body_of (holds K)) (items_from K p from) ≡ refused n a t → located K p ≡ refused n a t
  located_refused n a t f =
      located_begun K p (given from) e ∙ ap (map (located_of (holds K))) (map_refused (body_of (holds K)) (items_from K p from) n a t f)

  pub located_given : (a : Accepted) (l : List ℕ) → map (body_of (holds K)) (items_from K p from) ≡ given a → l ≡ places_from no_places (items_at p from)
      → located K p ≡ given (record { accepted = a; places = l })
  located_given a l f g =
      let r = map_given (body_of (holds K)) (items_from K p from) f in
      let b = then_given (walk 128 from (drop from p)) _ r.1 in
      let items : items_at p from ≡ r.0 = ap (or_else [] (λ is. is)) b.first ∙ sym (accepts K p b.between r.0 b.second).same in
      located_begun K p (given from) e
      ∙ (ap (map (located_of (holds K))) r.1 ∙ ap₂ (λ x y. given (record { accepted = x; places = y })) r.2 (sym (g ∙ ap (places_from no_places) items)))
