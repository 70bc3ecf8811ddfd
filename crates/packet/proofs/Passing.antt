-- What the walk at a glance keeps of a packet's items; and as many tags noted as known items means nothing wrong by the one rule.
-- Assumes nothing.
use Prim.Native.Nat.{ℕ, suc, ◌+◌, ◌-◌, ◌<◌, ◌≤◌}
use native.Mathlib.Omega.{arith}
use native.Mathlib.Nat.{add-zero, add_assoc}
use mathlib.Core.Path.{◌≡◌, refl, ap, sym, ◌∙◌, subst}
use mathlib.Core.Bool.{Bool, true, false, ◌&&◌, and-false}
use mathlib.Core.List.{List, [], ◌∷◌}
use lib.Dec.{eqb, leb}
use lib.ListN.{length, take, drop, get_or, set, length-set, length-replicate, get_or-replicate}
use lib.Seq.{get_or-set_same, get_or-set_other}
use borrow.Author.Tests.{leb-true, eq-eqb, ne_eqb, lt-ltb, le-ltb}
use Rattle.base.proofs.Cases.{by_bool, by_lt, by_eq, clash}
use Rattle.base.proofs.Every.{both_left, both_right}
use Rattle.base.proofs.Parts.{cons_at}
use Rattle.refusal.specs.Answer.{given}
use Rattle.number.specs.Stored.{Bytes, value_from, value_of}
use Rattle.tagset.specs.Sets.{no_tags, holds, size}
use Rattle.tagset.specs.declared.TagSet.{TagSet}
use Rattle.tagset.proofs.Laws.{Words, no_words, no-tags, with_words, with_it, with_other}
use Rattle.tagset.proofs.Counting.{with_new, with_held}
use Rattle.knowing.proofs.Laws.{Good, known_below, known_some, known_there}
use Rattle.catalogue.specs.Items.{groups, member, item_in, item_of}
use Rattle.catalogue.specs.Extended.{is_extended}
use Rattle.catalogue.specs.Shapes.{shape_of, shape_allows, is_needed, right_length, code_allowed, codes_limited}
use Rattle.catalogue.specs.declared.Shape.TheVariants.{Number, Absent}
use Rattle.catalogue.proofs.Columns.{codes_free, no_code, extended-code, reach_allowed, right_by, right_some}
use Rattle.rows.specs.Present.{is_present, is_withdrawn, with_row, words_from}
use Rattle.packet.specs.Pieces.{Piece, Item, pieces, walk}
use Rattle.packet.specs.Seen.{row_of, rows_of}
use Rattle.packet.specs.Judge.{has, among, clean, fault_of, fine, judge_from}
use Rattle.packet.specs.Structure.{last_of}
use Rattle.packet.specs.Encode.{longer_of}
use Rattle.packet.specs.Verdict.{one_byte, places_from, no_places}
use Rattle.packet.specs.Said.{header_at}
use Rattle.packet.specs.code.Headers.{header_of, item_by}
use Rattle.packet.specs.code.Passing.{Kept, longer_in, is_fit, found_by, counted, noted, kept_by, with_header, with_item, kept_from, kept}
use Rattle.packet.specs.code.Passing.{SeenAt, PlainSeen, passed_with, with_plain, with_glance, Counted, Going, HasRoom}
use Rattle.packet.specs.code.Concluded.{found_in, whole_in, coded_in}
use Rattle.packet.specs.declared.Header.{Header}
use Rattle.packet.specs.declared.Glance.{Glance}
use Rattle.packet.specs.declared.Passed.{Passed}
use Rattle.packet.proofs.Walks.{header_lies, header_back, walk_item, kept_before}
use Rattle.packet.proofs.Walked.{Walked, done, went, header_start}
use Rattle.packet.proofs.Accepting.{Fits, AllFit, none_fits, one_fits}
use Rattle.packet.proofs.Present.{row_present, row_withdrawn}

-- what is kept of the items, one thing after another
module _ (K : TagSet) where
  pub kept_count : (k : Kept) (is : List Item) → (kept_from K k is).passed.count ≡ k.passed.count + length is
  unfolding kept_from
  kept_count k [] = sym (add-zero k.passed.count)
  kept_count k (i ∷ is) = omega (arith, kept_count (with_item K k i) is)

  pub kept_longer : (k : Kept) (is : List Item) → (kept_from K k is).passed.longer ≡ k.passed.longer + longer_of is
  unfolding kept_from longer_of
  kept_longer k [] = sym (add-zero k.passed.longer)
  kept_longer k (i ∷ is) = kept_longer (with_item K k i) is ∙ add_assoc k.passed.longer _ (longer_of is)

  pub kept_last : (k : Kept) (i : Item) (is : List Item) → (kept_from K k (i ∷ is)).passed.last ≡ (last_of i is).start
  unfolding kept_from
  kept_last k i [] = refl
  kept_last k i (j ∷ js) = kept_last (with_item K k i) j js

  pub kept_places : (k : Kept) (is : List Item) → (kept_from K k is).places ≡ places_from k.places is
  unfolding kept_from places_from
  kept_places k [] = refl
  kept_places k (i ∷ is) = kept_places (with_item K k i) is

-- where a value was found, its tag was seen
pub record Tracks (places ts : List ℕ) : Type 0 where
  pub full : length places ≡ 128
  pub each : (t : ℕ) → 0 < t → t < 128 → found_in places t ≡ true → has t ts ≡ true

pub tracks_none : Tracks no_places []
tracks_none =
    record {
      full = length-replicate {A = ℕ} 128 0;
      each = λ t h k f. clash (sym (rw (get_or-replicate {A = ℕ} 128 t 0 0 k) at f));
    }

pub short_tag : (u : ℕ) → one_byte u < 128
short_tag u = by_lt u 128 (λ h. rw (lt-ltb u 128 h) h) (λ h. rw (le-ltb u 128 h) (omega arith))

pub short_same : (u : ℕ) → u < 128 → one_byte u ≡ u
short_same u h = rw (lt-ltb u 128 h)

pub short_other : (t u : ℕ) → 0 < t → (t ≡ u → ⊥) → t ≡ one_byte u → ⊥
short_other t u h other e =
    by_lt u 128
    (λ k. other (e ∙ short_same u k))
    (λ k. let z : t ≡ 0 = rw (le-ltb u 128 k) at e in absurd (omega arith))

pub tracks_one : (places ts : List ℕ) (u e : ℕ) → Tracks places ts → Tracks (set places (one_byte u) e) (u ∷ ts)
tracks_one places ts u e s =
    record {
      full = length-set places (one_byte u) e ∙ s.full;
      each = λ t h k f. by_eq t u
          (λ q. rw (eq-eqb t u q))
          (λ q. rw (ne_eqb t u q) (s.each t h k (rw (get_or-set_other places (one_byte u) t e 0 (short_other t u h q)) at f)));
    }

value_one : (x : ℕ) → value_of (x ∷ []) ≡ x
unfolding value_from
value_one x = omega arith

-- items 34 and 63 have one byte
one-byte : (n : ℕ) → shape_allows (Number 1 1 false) n ≡ true → n ≡ 1
one-byte n a = omega (arith, leb-true 1 n (both_left (leb 1 n) _ a), leb-true n 1 (both_right (leb 1 n) _ a))

-- a fit item of some bytes has an allowed length, and if it is an extended height an allowed code
fit_length : (c : Piece) → is_fit c ≡ true → (length c.value ≡ 0 → ⊥) → shape_allows (shape_of c.tag) (length c.value) ≡ true
unfolding is_fit
fit_length c f some =
    let n = length c.value in
    by_bool (is_extended c.tag)
    (λ x. reach_allowed c.tag x n _ (rw (ne_eqb n 0 some, x) at f))
    (λ x. rw (ne_eqb n 0 some, x) at f)

fit_code : (c : Piece) → is_extended c.tag ≡ true → is_fit c ≡ true → code_allowed c.tag (length c.value) (value_of c.value) ≡ true
unfolding is_fit
fit_code c x f = extended-code c.tag x (length c.value) _ ∙ rw x at f

fits_fit : (c : Piece) → Fits c → is_fit c ≡ true
unfolding is_fit right_length
fits_fit c f =
    let n = length c.value in
    by_bool (is_extended c.tag)
    (λ x. rw x (sym (extended-code c.tag x n _) ∙ f.code))
    (λ x. rw x (by_eq n 0
    (λ z. rw z)
    (λ some. rw (ne_eqb n 0 some) (right_some c.tag n (shape_of c.tag) f.size some))))

-- what the walk notes of the items
module _ (K : TagSet) (good : Good K) (w : Words K) where
  noted_words : (s : TagSet) → Words s → (t : ℕ) (f : Bool) → Words (noted K s t f)
  noted_words s v t f = by_bool (holds K t && f) (λ e. rw e (with_words s v t)) (λ e. rw e v)

  -- a tag more at most, for a known item alone
  noted_size : (s : TagSet) → Words s → (t : ℕ) (f : Bool) → size (noted K s t f) ≤ size s + counted K t
  noted_size s v t f =
      by_bool (holds K t)
      (λ k. by_bool f
      (λ e. rw (k, e) (by_bool (holds s t)
      (λ h. rw (with_held s v t (known_below K w t k) h) (omega arith))
      (λ h. rw (with_new s v t (known_below K w t k) h) (omega arith))))
      (λ e. rw (k, e) (omega arith)))
      (λ k. rw k (omega arith))

  -- where there is one more, the item is fit and its tag new
  noted_new : (s : TagSet) → Words s → (t : ℕ) (f : Bool) → holds K t ≡ true → suc (size s) ≤ size (noted K s t f) → (f ≡ true) × (holds s t ≡ false)
  noted_new s v t f k more =
      by_bool f
      (λ e. by_bool (holds s t)
      (λ h. absurd (omega (arith, rw (k, e, with_held s v t (known_below K w t k) h) at more)))
      (λ h. (e, h)))
      (λ e. absurd (omega (arith, rw (k, e) at more)))

  -- what is noted stays
  noted_other : (s : TagSet) → Words s → (t u : ℕ) (f : Bool) → (u ≡ t → ⊥) → holds (noted K s t f) u ≡ holds s u
  noted_other s v t u f n = by_bool (holds K t && f) (λ e. rw e (with_other s v t u n)) (λ e. rw e)

  noted_stays : (s : TagSet) → Words s → (t u : ℕ) (f : Bool) → holds s u ≡ true → holds (noted K s t f) u ≡ true
  noted_stays s v t u f h =
      by_bool (holds K t && f)
      (λ e. by_eq u t
      (λ q. rw (e, q) (with_it s v t (known_below K w t (both_left (holds K t) f e))))
      (λ n. rw e (with_other s v t u n ∙ h)))
      (λ e. rw e h)

  -- as many tags noted as known items passed
  abbrev pub Even : Kept → Type 0
  Even k = k.passed.known ≡ size k.present

  -- never more tags than items
  kept_behind : (k : Kept) → Words k.present → (is : List Item)
      → size (kept_from K k is).present + k.passed.known ≤ (kept_from K k is).passed.known + size k.present
  unfolding kept_from
  kept_behind k v [] = omega arith
  kept_behind k v (i ∷ is) =
      let u : ℕ = one_byte i.piece.tag in
      let f : Bool = is_fit i.piece in
      omega (arith, kept_behind (with_item K k i) (noted_words k.present v u f) is, noted_size k.present v u f)

  -- so as many at the end means as many at each item, each known one fit and new
  record Noted (k : Kept) (h : Header) (f : Bool) : Type 0 where
    even : Even (with_header K k h f)
    fits : holds K (one_byte h.tag) ≡ true → f ≡ true
    new : holds K (one_byte h.tag) ≡ true → holds k.present (one_byte h.tag) ≡ false

  noted_item : (k : Kept) → Words k.present → Even k → (h : Header) (f : Bool) (is : List Item) → Even (kept_from K (with_header K k h f) is) → Noted k h f
  noted_item k v e h f is last =
      let u : ℕ = one_byte h.tag in
      let n : Kept = with_header K k h f in
      let up = noted_size k.present v u f in
      let behind = kept_behind n (noted_words k.present v u f) is in
      let more : holds K u ≡ true → suc (size k.present) ≤ size n.present = λ b.
      let one : counted K u ≡ 1 = rw b in omega (arith, last, e, behind, one) in
      record {
        even = omega (arith, last, e, up, behind);
        fits = λ b. (noted_new k.present v u f b (more b)).0;
        new = λ b. (noted_new k.present v u f b (more b)).1;
      }

  -- so where a known item's value is found stays
  place_stays : (k : Kept) → Words k.present → Even k → (is : List Item) → Even (kept_from K k is) → (t : ℕ) → holds K t ≡ true
      → holds k.present t ≡ true → get_or (kept_from K k is).places t 0 ≡ get_or k.places t 0
  unfolding kept_from
  place_stays k v e [] last t h met = refl
  place_stays k v e (i ∷ is) last t h met =
      let u : ℕ = one_byte i.piece.tag in
      let f : Bool = is_fit i.piece in
      let n : Kept = with_item K k i in
      let s = noted_item k v e (header_of i) f is last in
      let other : t ≡ u → ⊥ = λ q. clash (sym met ∙ (ap (holds k.present) q ∙ s.new (ap (holds K) (sym q) ∙ h))) in
      place_stays n (noted_words k.present v u f) s.even is last t h (noted_stays k.present v u t f met)
      ∙ get_or-set_other k.places u t (found_by (header_of i)) 0 other

  -- the tags noted are those seen of the known ones
  pub record Marks (s : TagSet) (ts : List ℕ) : Type 0 where
    pub words : Words s
    pub each : (t : ℕ) → holds K t ≡ true → holds s t ≡ has t ts

  pub marks_none : Marks no_tags []
  marks_none = record { words = no_words; each = λ t _. no-tags t }

  marks_one : (k : Kept) (ts : List ℕ) (h : Header) (f : Bool) → Marks k.present ts → Noted k h f → Marks (with_header K k h f).present (h.tag ∷ ts)
  marks_one k ts h f m s =
      let u : ℕ = one_byte h.tag in
      record {
        words = noted_words k.present m.words u f;
        each = λ t b. by_eq t h.tag
            (λ q.
            let same : u ≡ t = ap one_byte (sym q) ∙ short_same t (known_below K w t b) in
            let known : holds K u ≡ true = ap (holds K) same ∙ b in
            rw (eq-eqb t h.tag q) (ap (holds (noted K k.present u f)) (sym same)
            ∙ rw (known, s.fits known) (with_it k.present m.words u (short_tag h.tag))))
            (λ q. rw (ne_eqb t h.tag q)
            (noted_other k.present m.words u t f (short_other t h.tag (known_some K good t b) q) ∙ m.each t b));
      }

  module _ (p : List ℕ) (by : Bytes p) (places : List ℕ) (whole : whole_in places ≡ true) (coded34 : coded_in K p places 34 ≡ true)
      (coded63 : coded_in K p places 63 ≡ true) where
    -- what a packet needs has a value
    found1 : found_in places 1 ≡ true
    found1 = both_left (found_in places 1) _ whole

    found2 : found_in places 2 ≡ true
    found2 = both_left (found_in places 2) _ (both_right (found_in places 1) _ whole)

    found65 : found_in places 65 ≡ true
    found65 = both_right (found_in places 2) _ (both_right (found_in places 1) _ whole)

    needed_found : (t : ℕ) → is_needed t ≡ true → found_in places t ≡ true
    unfolding is_needed
    needed_found t e =
        by_eq t 1 (λ q. rw q found1)
        (λ a. by_eq t 2 (λ q. rw q found2)
        (λ b. by_eq t 65 (λ q. rw q found65)
        (λ c. clash (sym (rw (ne_eqb t 1 a, ne_eqb t 2 b, ne_eqb t 65 c) at e)))))

    -- so an item of no bytes is none of them
    empty_free : (h : Header) → get_or places h.tag 0 ≡ found_by h → h.size ≡ 0 → is_needed h.tag ≡ false
    empty_free h e z = by_bool (is_needed h.tag) (λ n. clash (sym (rw (e, z) at (needed_found h.tag n)))) (λ n. n)

    -- its code is right, by the byte before the place past it
    coded_byte : (h : Header) (t : ℕ) → h.tag ≡ t → coded_in K p places t ≡ true → holds K t ≡ true → h.size ≡ 1 → h.place + h.size ≤ length p
        → get_or places t 0 ≡ h.place + h.size → code_allowed t h.size (value_of (take h.size (drop h.place p))) ≡ true
    unfolding code_allowed
    coded_byte h t q c k one inside e =
        let f : get_or places t 0 ≡ h.place + 1 = rw one at e in
        let g : h.place + 1 - 1 ≡ h.place = omega arith in
        let z = rw (f, lt-ltb 0 (h.place + 1) (omega arith), k, g) at c in
        rw (one, cons_at p h.place (omega arith), value_one (get_or p h.place 0)) z

    -- its value is found past it
    found_past : (h : Header) (t : ℕ) → h.tag ≡ t → is_extended t ≡ false → (h.size ≡ 0 → ⊥) → get_or places t 0 ≡ found_by h
        → get_or places t 0 ≡ h.place + h.size
    found_past h t q x some e = rw (q, x, ne_eqb h.size 0 some) at e

    coded : (h : Header) → holds K h.tag ≡ true → h.place + h.size ≤ length p → is_fit (item_by p h).piece ≡ true
        → length (take h.size (drop h.place p)) ≡ h.size
        → get_or places h.tag 0 ≡ found_by h → code_allowed h.tag h.size (value_of (take h.size (drop h.place p))) ≡ true
    unfolding codes_limited is_extended shape_of item_of item_in member groups
    coded h k inside f l e =
        by_eq h.size 0
        (λ z. rw z (no_code h.tag _))
        (λ some.
        let s : shape_allows (shape_of h.tag) h.size ≡ true = rw l at (fit_length (item_by p h).piece f (rw l some)) in
        by_eq h.tag 34
        (λ q. rw q (coded_byte h 34 q coded34 (rw q at k) (one-byte h.size (rw q at s)) inside
        (found_past h 34 q refl some (ap (λ t. get_or places t 0) (sym q) ∙ e))))
        (λ a. by_eq h.tag 63
        (λ q. rw q (coded_byte h 63 q coded63 (rw q at k) (one-byte h.size (rw q at s)) inside
        (found_past h 63 q refl some (ap (λ t. get_or places t 0) (sym q) ∙ e))))
        (λ b. by_bool (is_extended h.tag)
        (λ x. rw l at (fit_code (item_by p h).piece x f))
        (λ x. codes_free h.tag h.size _ (rw (ne_eqb h.tag 34 a, ne_eqb h.tag 63 b, x))))))

    clean_item : (k : Kept) (ts : List ℕ) (h : Header) → Marks k.present ts → Noted k h (is_fit (item_by p h).piece) → h.place + h.size ≤ length p
        → (holds K h.tag ≡ true → get_or places h.tag 0 ≡ found_by h)
        → fault_of (holds K) (among ts) (item_by p h).piece ≡ clean
    unfolding fault_of
    clean_item k ts h m s inside ends =
        by_bool (holds K h.tag)
        (λ b.
        let same : one_byte h.tag ≡ h.tag = short_same h.tag (known_below K w h.tag b) in
        let known : holds K (one_byte h.tag) ≡ true = ap (holds K) same ∙ b in
        let l : length (take h.size (drop h.place p)) ≡ h.size = ap (λ i. i.size) (header_back p h inside) in
        let f : is_fit (item_by p h).piece ≡ true = s.fits known in
        let new : has h.tag ts ≡ false = sym (m.each h.tag b) ∙ rw same at (s.new known) in
        let sized = right_by h.tag h.size (shape_of h.tag) (known_there K good h.tag b) (empty_free h (ends b))
        (λ some. rw l at (fit_length (item_by p h).piece f (rw l some))) in
        rw (b, l, sized, new, coded h b inside f l (ends b)))
        (λ b. rw b)

    -- as many tags noted as known items means nothing wrong by the one rule
    pub glance_clean : (k : Kept) (ts : List ℕ) {at : ℕ} (is : List Item) → Tracks k.places ts → Marks k.present ts → Even k → Walked p at is
        → Even (kept_from K k is) → (kept_from K k is).places ≡ places
        → judge_from (holds K) ts (pieces is) ≡ fine
    unfolding kept_from judge_from
    glance_clean k ts [] s m e (done _) last f = rw (s.each 65 (omega arith) (omega arith) (rw f found65))
    glance_clean k ts {at} (i ∷ is) s m e (went h found rest) last f =
        let lies = header_lies p at by h found in
        let fits : Bool = is_fit (item_by p h).piece in
        let next : Kept = with_header K k h fits in
        let back = header_back p h lies.inside in
        let last' : Even (kept_from K next is) = subst (λ g. Even (kept_from K (with_header K k g fits) is)) back last in
        let f' : (kept_from K next is).places ≡ places = subst (λ g. (kept_from K (with_header K k g fits) is).places ≡ places) back f in
        let u : ℕ = h.tag in
        let q = noted_item k m.words e h fits is last' in
        let n = marks_one k ts h fits m q in
        let ends : holds K u ≡ true → get_or places u 0 ≡ found_by h = λ b.
        let below = known_below K w u b in
        let at-u : get_or next.places u 0 ≡ found_by h =
        ap (λ v. get_or (set k.places v (found_by h)) u 0) (short_same u below)
        ∙ get_or-set_same k.places u (found_by h) 0 (rw s.full below) in
        let met : holds next.present u ≡ true = n.each u b ∙ rw (eq-eqb u u refl) in
        ap (λ l. get_or l u 0) (sym f') ∙ (place_stays next n.words q.even is last' u b met ∙ at-u) in
        let c = clean_item k ts h m q lies.inside ends in
        rw (c, glance_clean next (u ∷ ts) is (tracks_one k.places ts u (found_by h) s) n q.even rest last' f')

  -- a tag known at a glance is known
  known_short : (u : ℕ) → holds K (one_byte u) ≡ true → holds K u ≡ true
  known_short u b =
      by_lt u 128
      (λ h. ap (holds K) (sym (short_same u h)) ∙ b)
      (λ h. let z : holds K 0 ≡ true = rw (le-ltb u 128 h) at b in absurd (omega (arith, known_some K good 0 z)))

  -- what is said of the fitness of an item that is not known does not matter
  noted_same : (s : TagSet) (u : ℕ) (f g : Bool) → ((shape_of u ≡ Absent → ⊥) → f ≡ g) → noted K s (one_byte u) f ≡ noted K s (one_byte u) g
  noted_same s u f g e =
      by_bool (holds K (one_byte u))
      (λ b. rw (e (known_there K good u (known_short u b))))
      (λ b. rw b)

  -- where each known item has an allowed length and code, the tags noted are those of the rows that are not carried
  noted_row : (s : TagSet) (i : Item) → (holds K i.piece.tag ≡ true → Fits i.piece)
      → noted K s (one_byte i.piece.tag) (is_fit i.piece) ≡ with_row is_present s (row_of (holds K) i)
  unfolding row_of
  noted_row s i fits =
      let u : ℕ = i.piece.tag in
      let shown : is_present (row_of (holds K) i) ≡ holds K u = row_present K good i in
      by_bool (holds K u)
      (λ b. rw (shown, short_same u (known_below K w u b), b, fits_fit i.piece (fits b)))
      (λ b. rw (shown, b) (by_bool (holds K (one_byte u)) (λ k. clash (sym (known_short u k) ∙ b)) (λ k. rw k)))

  pub kept_present : (k : Kept) (is : List Item) → AllFit (holds K) is → (kept_from K k is).present ≡ words_from is_present k.present (rows_of (holds K) is)
  unfolding kept_from words_from rows_of
  kept_present k [] none_fits = refl
  kept_present k (i ∷ is) (one_fits h rest) =
      kept_present (with_item K k i) is rest ∙ ap (λ s. words_from is_present s (rows_of (holds K) is)) (noted_row k.present i h)

  -- and those noted of no bytes are the withdrawn rows'
  noted_empty : (s : TagSet) (i : Item)
      → noted K s (one_byte i.piece.tag) (eqb (length i.piece.value) 0) ≡ with_row is_withdrawn s (row_of (holds K) i)
  unfolding row_of
  noted_empty s i =
      let u : ℕ = i.piece.tag in
      let shown : is_withdrawn (row_of (holds K) i) ≡ (holds K u && eqb (length i.piece.value) 0) = row_withdrawn K good i in
      by_bool (holds K u)
      (λ b. rw (shown, short_same u (known_below K w u b), b))
      (λ b. rw (shown, b) (by_bool (holds K (one_byte u)) (λ k. clash (sym (known_short u k) ∙ b)) (λ k. rw k)))

  pub kept_withdrawn : (k : Kept) (is : List Item) → (kept_from K k is).withdrawn ≡ words_from is_withdrawn k.withdrawn (rows_of (holds K) is)
  unfolding kept_from words_from rows_of
  kept_withdrawn k [] = refl
  kept_withdrawn k (i ∷ is) =
      kept_withdrawn (with_item K k i) is ∙ ap (λ s. words_from is_withdrawn s (rows_of (holds K) is)) (noted_empty k.withdrawn i)

-- a walk that goes on after another
pub going_on : (K : TagSet) (p : List ℕ) (fresh k l : Kept) → Going K p fresh k → Going K p k l → Going K p fresh l
going_on K p fresh k l g h = record { counted = h.counted; on = omega (arith, g.on, h.on); goes = h.goes ∙ g.goes }

pub noted_none : (K s : TagSet) (t : ℕ) (f : Bool) → f ≡ false → noted K s t f ≡ s
noted_none K s t f e = rw (e, and-false (holds K t))

pub counted_few : (K : TagSet) (t : ℕ) → counted K t ≤ 1
counted_few K t = by_bool (holds K t) (λ e. rw e (omega arith)) (λ e. rw e (omega arith))

-- with an item more, whose start and whether it is noted are said
abbrev kept_with : TagSet → Kept → Header → ℕ → TagSet → Kept
kept_with K k h at present =
    record {
      passed = record {
        here = h.place + h.size;
        count = k.passed.count + 1;
        last = at;
        longer = k.passed.longer + longer_in h;
        known = k.passed.known + counted K (one_byte h.tag);
      };
      places = set k.places (one_byte h.tag) (found_by h);
      present = present;
      withdrawn = noted K k.withdrawn (one_byte h.tag) (eqb h.size 0);
    }

-- an item at a glance: its tag has one byte, and where it ends lies past where its value is found and where it starts
module _ {p : List ℕ} {at : ℕ} {g : Glance} where
  pub glanced_tag : SeenAt p at g → g.tag < 128
  glanced_tag s = rw s.same (short_tag s.header.tag)

  pub glanced_place : SeenAt p at g → g.place ≤ g.past
  glanced_place s =
      let h = s.header in
      rw s.same (by_bool (eqb h.size 0)
      (λ z. rw z (omega arith))
      (λ z. rw z (by_bool (is_extended h.tag) (λ x. rw x (omega arith)) (λ x. rw x (omega arith)))))

  pub glanced_on : Bytes p → SeenAt p at g → at < g.past
  glanced_on by s = omega (arith, (header_lies p at by s.header s.found).on, ap (λ x. x.past) s.same)

  pub glanced_inside : Bytes p → SeenAt p at g → g.past ≤ length p
  glanced_inside by s = omega (arith, (header_lies p at by s.header s.found).inside, ap (λ x. x.past) s.same)

  -- it has room in what is kept, as the walk with it goes on
  pub glanced_room : {r : Passed} → Bytes p → length p ≤ 8192 → Counted r → SeenAt p at g → r.longer + g.longer ≤ g.past → HasRoom r g
  glanced_room by short c s less =
      let inside = glanced_inside by s in
      record { tag = glanced_tag s; place = omega (arith, glanced_place s); few = c.few; fewer = c.fewer; less = omega (arith, less) }

module _ (K : TagSet) (good : Good K) (w : Words K) (p : List ℕ) (by : Bytes p) (fresh k : Kept)
    (g : Going K p fresh k) (inside : k.passed.here < length p) (room : k.passed.count ≡ 128 → ⊥) where
  one_fewer : 128 - k.passed.count ≡ suc (128 - (k.passed.count + 1))
  one_fewer = omega (arith, g.counted.few, room)

  going_header : (h : Header) → header_at p k.passed.here ≡ given h → Going K p fresh (with_header K k h (is_fit (item_by p h).piece))
  going_header h found =
      let here : ℕ = k.passed.here in
      let m : ℕ = 128 - (k.passed.count + 1) in
      let lies = header_lies p here by h found in
      let rest = walk m (h.place + h.size) (drop (h.place + h.size) p) in
      let fits : Bool = is_fit (item_by p h).piece in
      record {
        counted = record {
          few = omega (arith, g.counted.few, room);
          fewer = omega (arith, g.counted.fewer, counted_few K (one_byte h.tag));
          less = omega (arith, g.counted.less, header_start p here h found, lies.formed);
        };
        on = omega (arith, g.on, lies.on);
        goes =
            ap (λ i. kept K (with_header K k i fits) rest) (sym (header_back p h lies.inside))
            ∙ (sym (kept_before K k (item_by p h) rest)
            ∙ (ap (kept K k) (sym (walk_item p here inside m h found))
            ∙ (ap (λ n. kept K k (walk n here (drop here p))) (sym one_fewer) ∙ g.goes)));
      }

  pub going_glance : (i : Glance) → SeenAt p k.passed.here i → Going K p fresh (with_glance K k i)
  going_glance i seen =
      let h = seen.header in
      let fits : Bool = is_fit (item_by p h).piece in
      let same : noted K k.present (one_byte h.tag) fits ≡ noted K k.present (one_byte h.tag) i.fit =
      sym (noted_same K good w k.present h.tag i.fit fits seen.fits) in
      let start : h.start ≡ k.passed.here = header_start p k.passed.here h seen.found in
      subst (λ j. Going K p fresh (with_glance K k j)) (sym seen.same)
      (subst (λ at. Going K p fresh (kept_with K k h at (noted K k.present (one_byte h.tag) i.fit))) start
      (subst (λ s. Going K p fresh (kept_with K k h h.start s)) same (going_header h seen.found)))

  -- of an item of some bytes nothing is noted as withdrawn
  pub going_plain : (i : Glance) → PlainSeen p k.passed.here i → Going K p fresh (with_plain K k i)
  going_plain i s =
      subst (λ u. Going K p fresh (kept_by (passed_with K k.passed i) (set k.places i.tag i.place) (noted K k.present i.tag i.fit) u))
      (noted_none K k.withdrawn i.tag i.empty s.some) (going_glance i s.seen)
