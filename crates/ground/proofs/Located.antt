-- The values of an accepted packet, by the places at which they are found, are those of its rows: a known tag stands once, with an allowed length.
-- Assumes nothing.
use Prim.Native.Nat.{ℕ, suc, ◌+◌, ◌-◌, ◌*◌, ◌%◌, ◌^◌, ◌<◌, ◌≤◌, suc-le-suc}
use native.Mathlib.Omega.{arith}
use native.Mathlib.Nat.{mod-eq_of_lt, pow-le-pow_right}
use mathlib.Core.Path.{◌≡◌, refl, sym, ap, ap₂, ◌∙◌}
use mathlib.Core.Bool.{Bool, true, false, ◌&&◌}
use mathlib.Core.List.{List, [], ◌∷◌}
use lib.Arith.{digits_mod}
use lib.Dec.{ltb, leb, eqb}
use lib.ListN.{length, take, drop, get_or, set, length-set, length-take, length-replicate, get_or-replicate}
use lib.Seq.{get_or-set_same, get_or-set_other}
use borrow.Author.Tests.{leb-true, eq-eqb, ne_eqb}
use Rattle.base.proofs.Cases.{by_bool, by_lt, by_eq, clash, never}
use Rattle.base.proofs.Every.{both_left, both_right}
use Rattle.refusal.specs.Answer.{Answer, given, refused, refusal, map, or_else}
use Rattle.refusal.specs.declared.Refusal.{Refusal}
use Rattle.refusal.proofs.Answers.{map_given, map_refused}
use Rattle.number.specs.Stored.{Bytes, value_of}
use Rattle.number.proofs.Laws.{bytes_drop, bytes_take, value_small}
use Rattle.tagset.specs.Sets.{holds}
use Rattle.tagset.specs.declared.TagSet.{TagSet}
use Rattle.tagset.proofs.Laws.{Words, holds_none}
use Rattle.catalogue.specs.Items.{groups, member, item_in, item_of}
use Rattle.catalogue.specs.Extended.{is_extended}
use Rattle.catalogue.specs.Shapes.{is_marked, shape_of, is_listed, right_length}
use Rattle.catalogue.proofs.Columns.{extended_shape, right_some}
use Rattle.knowing.proofs.Laws.{good_means}
use Rattle.rows.proofs.Present.{known_listed}
use Rattle.catalogue.specs.declared.Item.{Item}
use Rattle.catalogue.specs.declared.Shape.TheVariants.{Number}
use Rattle.rows.specs.Meaning.{shape_for, mark_code}
use Rattle.rows.specs.declared.RowWords.{RowWords}
use Rattle.rows.specs.Taken.{part_length}
use Rattle.packet.specs.Pieces as pieces
use Rattle.packet.specs.Allowed.{piece_at}
use Rattle.packet.specs.Verdict.{received, start_of, one_byte, found_at, places_from, no_places, located_of, located}
use Rattle.packet.specs.declared.Located.{Located}
use Rattle.packet.specs.declared.Header.{Header}
use Rattle.packet.specs.Rows.{row_of, rows_of}
use Rattle.packet.specs.code.Headers.{item_by}
use Rattle.packet.proofs.Walks.{Lies, header_lies, header_back}
use Rattle.packet.proofs.Walked.{Walked, done, went, walked}
use Rattle.packet.proofs.Passing.{short_same, short_other}
use Rattle.packet.proofs.Accepting.{accepting}
use Rattle.laws.proofs.Clean.{fine_clean}
use Rattle.scale.specs.Scales.{codes, half, origin, reach, steps, is_number}
use Rattle.scale.specs.Conversions.{house_of, to_house}
use Rattle.scale.proofs.Given.{Scaled, scaled_rule, scaled_plain, no_number_20}
use Rattle.ground.specs.Values.{in_house, value_by, value_for}
use Rattle.ground.specs.Ground.{from_rows}
use Rattle.ground.specs.declared.Value.{Value}
use Rattle.ground.specs.declared.Value.TheVariants.{Absent}
use Rattle.ground.specs.code.Located.{Placed, rows_held, place_found, item_with, Like}
use Rattle.ground.proofs.Present.{shape_is}
use Rattle.std.specs.Prelude.{Option, Some, None}

-- a tag that is not known has carried rows alone
unknown : (K : ℕ → Bool) (t : ℕ) → K t ≡ false → (is : List pieces.Item) → value_for t (rows_of K is) ≡ Absent
unfolding value_for rows_of row_of shape_for
unknown K t e [] = refl
unknown K t e (i ∷ is) =
    by_eq i.piece.tag t
    (λ q. rw (q, e, eq-eqb t t refl) (unknown K t e is))
    (λ n. rw (ne_eqb _ _ n) (unknown K t e is))

-- a value is found past the key
found_some : (t : ℕ) (h : Header) → 0 < h.place → (h.size ≡ 0 → ⊥) → 0 < found_at t h.place h.size
found_some t h past some = rw (ne_eqb h.size 0 some) (by_bool (is_extended t) (λ x. rw x (omega arith)) (λ x. rw x (omega arith)))

-- what is used of a packet's being accepted
abbrev Sized : TagSet → List pieces.Piece → Type 0
Sized K cs = (k : ℕ) → k < length cs → holds K (piece_at cs k).tag ≡ true → right_length (piece_at cs k).tag (length (piece_at cs k).value) ≡ true

abbrev Once : TagSet → List pieces.Piece → Type 0
Once K cs = (j k : ℕ) → j < k → k < length cs → holds K (piece_at cs k).tag ≡ true → (piece_at cs j).tag ≡ (piece_at cs k).tag → ⊥

-- a row of a tag says what its code and its length are in house units, if it has bytes
abbrev InHouse : TagSet → ℕ → Type 0
InHouse K t = (j : pieces.Item) → (length j.piece.value ≡ 0 → ⊥) → part_length (row_of (holds K) j).part ≡ length j.piece.value
    → (rs : List RowWords) → j.piece.tag ≡ t
    → value_for t (row_of (holds K) j ∷ rs) ≡ in_house (to_house t (length j.piece.value) (value_of j.piece.value))

-- a known tag: nothing, or the one item that has it
module _ (K : TagSet) (p : List ℕ) (t : ℕ) (knows : holds K t ≡ true) (some : 0 < t) (below : t < 128) (listed : is_listed (shape_for (holds K) t) ≡ true)
    (says : InHouse K t) where
  skipped : (j : pieces.Item) (rs : List RowWords) → (j.piece.tag ≡ t → ⊥) → value_for t (row_of (holds K) j ∷ rs) ≡ value_for t rs
  unfolding value_for row_of
  skipped j rs n = rw (ne_eqb _ _ n)

  -- a withdrawn row does not count
  withdrawn : (j : pieces.Item) (rs : List RowWords) → j.piece.tag ≡ t → length j.piece.value ≡ 0 → value_for t (row_of (holds K) j ∷ rs) ≡ value_for t rs
  unfolding value_for row_of
  withdrawn j rs q z = rw (q, listed, z, eq-eqb t t refl)

  no_more : (is : List pieces.Item) → ((k : ℕ) → k < length (pieces.pieces is) → (piece_at (pieces.pieces is) k).tag ≡ t → ⊥)
      → value_for t (rows_of (holds K) is) ≡ Absent
  unfolding rows_of value_for
  no_more [] n = refl
  no_more (j ∷ js) n = skipped j (rows_of (holds K) js) (n 0 (omega arith)) ∙ no_more js (λ k h. n (suc k) (suc-le-suc h))

  -- where its value is found stays where no item more has the tag
  stays : (l : List ℕ) (is : List pieces.Item) → ((k : ℕ) → k < length (pieces.pieces is) → (piece_at (pieces.pieces is) k).tag ≡ t → ⊥)
      → get_or (places_from l is) t 0 ≡ get_or l t 0
  unfolding places_from
  stays l [] n = refl
  stays l (j ∷ js) n =
      stays (set l (one_byte j.piece.tag) (found_at j.piece.tag j.place (length j.piece.value))) js (λ k h. n (suc k) (suc-le-suc h))
      ∙ get_or-set_other l (one_byte j.piece.tag) t _ 0 (short_other t j.piece.tag some (λ q. n 0 (omega arith) (sym q)))

  -- what the rows say, by where the value is found
  record There (place : ℕ) (rs : List RowWords) : Type 0 where
    at : ℕ
    header : Header
    lies : Lies p at header
    bytes : header.size ≡ 0 → ⊥
    allowed : right_length t header.size ≡ true
    found : place ≡ found_at t header.place header.size
    value : value_for t rs ≡ in_house (to_house t header.size (value_of (take header.size (drop header.place p))))

  record Told (place : ℕ) (rs : List RowWords) : Type 0 where
    none : place ≡ 0 → value_for t rs ≡ Absent
    there : 0 < place → There place rs

  module _ (by : Bytes p) (short : length p ≤ 8192) where
    told : (l : List ℕ) {at : ℕ} (is : List pieces.Item) → length l ≡ 128 → get_or l t 0 ≡ 0 → Walked p at is
        → Sized K (pieces.pieces is) → Once K (pieces.pieces is) → Told (get_or (places_from l is) t 0) (rows_of (holds K) is)
    unfolding places_from rows_of row_of value_for
    told l [] full fresh (done _) sized once = rw fresh (record { none = λ _. refl; there = λ h. absurd (omega arith) })
    told l {at} (j ∷ js) full fresh (went h found rest) sized once =
        let lies = header_lies p at by h found in
        let v : List ℕ = take h.size (drop h.place p) in
        let e : ℕ = found_at h.tag h.place (length v) in
        let next : List ℕ = set l (one_byte h.tag) e in
        by_eq h.tag t
        (λ q.
        let long : length v ≡ h.size = ap (λ x. x.size) (header_back p h lies.inside) in
        let slot : get_or next t 0 ≡ e =
        ap (λ u. get_or (set l u e) t 0) (ap one_byte q ∙ short_same t below) ∙ get_or-set_same l t e 0 (rw full below) in
        let others : (k : ℕ) → k < length (pieces.pieces js) → (piece_at (pieces.pieces js) k).tag ≡ t → ⊥ =
        λ k f g. once 0 (suc k) (omega arith) (suc-le-suc f) (rw g knows) (q ∙ sym g) in
        let last : get_or (places_from next js) t 0 ≡ e = stays next js others ∙ slot in
        let same : e ≡ found_at t h.place h.size = rw (q, long) in
        let part : part_length (h.place * 65536 + length v) ≡ length v = digits_mod h.place (omega (arith, long, lies.inside, short)) in
        by_eq h.size 0
        (λ z.
        let nowhere : e ≡ 0 = same ∙ rw z in
        rw last (record {
          none = λ _. withdrawn (item_by p h) (rows_of (holds K) js) q (long ∙ z) ∙ no_more js others;
          there = λ f. absurd (omega (arith, f, nowhere));
        }))
        (λ bytes.
        let value = says (item_by p h) (λ z. bytes (sym long ∙ z)) part (rows_of (holds K) js) q in
        let allowed : right_length t h.size ≡ true = rw (q, long) at (sized 0 (omega arith) (rw q knows)) in
        rw last (record {
          none = λ z. absurd (omega (arith, z, same, found_some t h (omega (arith, lies.two)) bytes));
          there = λ _. record {
            at = at;
            header = h;
            lies = lies;
            bytes = bytes;
            allowed = allowed;
            found = same;
            value = value ∙ ap (λ n. in_house (to_house t n (value_of v))) long;
          };
        })))
        (λ n.
        let slot : get_or next t 0 ≡ 0 = get_or-set_other l (one_byte h.tag) t e 0 (short_other t h.tag some (λ q. n (sym q))) ∙ fresh in
        let r = told next js (length-set l (one_byte h.tag) e ∙ full) slot rest (λ k f. sized (suc k) (suc-le-suc f))
        (λ a b c f. once (suc a) (suc b) (suc-le-suc c) (suc-le-suc f)) in
        let skip = skipped (item_by p h) (rows_of (holds K) js) n in
        record {
          none = λ f. skip ∙ r.none f;
          there = λ f. let y = r.there f in record {
            at = y.at;
            header = y.header;
            lies = y.lies;
            bytes = y.bytes;
            allowed = y.allowed;
            found = y.found;
            value = skip ∙ y.value;
          };
        })

-- an item of a scale by a width
module _ (K : TagSet) (p : List ℕ) (t : ℕ) (i : Item) (knows : holds K t ≡ true) (s : Scaled t i) where
  -- a mark is no number, so it needs no test of its own
  mark_refused : (code : ℕ) → (is_marked i.sign && eqb code (mark_code i.width)) ≡ true → is_number i code ≡ false
  unfolding half
  mark_refused code m = by_bool (ltb code (codes i)) (λ b. rw (b, m)) (λ b. rw b)

  scaled_says : InHouse K t
  unfolding value_for value_by row_of
  scaled_says j bytes size rs e =
      let v : List ℕ = j.piece.value in
      let some = ne_eqb (length v) 0 bytes in
      by_bool (is_marked i.sign && eqb (value_of v) (mark_code i.width))
      (λ m. rw (e, shape_is (holds K) p t i knows s, some, m, eq-eqb t t refl, no_number_20 s (length v) (value_of v) (mark_refused _ m)))
      (λ m. rw (e, shape_is (holds K) p t i knows s, some, m, eq-eqb t t refl, size))

  sized_so : (n : ℕ) → (n ≡ 0 → ⊥) → right_length t n ≡ true → n ≡ i.width
  unfolding right_length shape_for
  sized_so n bytes a =
      let f : shape_of t ≡ Number i.width i.width (is_marked i.sign) = rw knows at (shape_is (holds K) p t i knows s) in
      let b : (leb i.width n && leb n i.width) ≡ true = rw f at (right_some t n (shape_of t) a bytes) in
      omega (arith, leb-true i.width n (both_left (leb i.width n) _ b), leb-true n i.width (both_right (leb i.width n) _ b))

-- a code of so few bytes is what a word says of them
whole_code : (l : List ℕ) → Bytes l → length l ≤ 8 → value_of l % 2 ^ 64 ≡ value_of l
whole_code l by few =
    mod-eq_of_lt (omega (arith, value_small l by, pow-le-pow_right {n = 256} (omega arith) {i = length l} {j = 8} few))

-- two tags of one group say the same by the same code, whatever lengths they are told
module _ {t u width : ℕ} (k : Like t u width) where
  its_scale : Scaled t (item_with t k.group)
  its_scale = record { known = k.one; has_scale = k.scale }

  other_scale : Scaled u (item_with u k.group)
  other_scale = record { known = k.other; has_scale = k.scale }

  same-house : (m n code : ℕ) → in_house (to_house u m code) ≡ in_house (to_house t n code)
  unfolding to_house house_of codes half origin reach steps
  same-house m n code =
      by_bool (is_number (item_with t k.group) code)
      (λ b. rw (scaled_plain its_scale, scaled_plain other_scale, k.one, k.other, k.scale, b))
      (λ b. rw (scaled_plain its_scale, scaled_plain other_scale, k.one, k.other, k.scale, b))

-- what a function that finds a tag has of an accepted packet
pub record StandsAt (p : List ℕ) (u width end : ℕ) (x : Value) : Type 0 where
  pub inside : end ≤ length p
  pub wide : width ≤ end
  pub there : (code : ℕ) → code ≡ value_of (take (end - (end - width)) (drop (end - width) p)) % 2 ^ 64 → in_house (to_house u width code) ≡ x

-- and what one has that looks for it: where it is found nowhere, the rows say nothing of it
pub record Stands (p : List ℕ) (u width : ℕ) (found : Option ℕ) (x : Value) : Type 0 where
  pub none : None ≡ found → Absent ≡ x
  pub at : (end : ℕ) → Some end ≡ found → StandsAt p u width end x

-- of an extended height the same, by the byte before its value
pub record HeightStandsAt (p : List ℕ) (t place : ℕ) (x : Value) : Type 0 where
  pub before : place - 1 < length p
  pub inside : place + get_or p (place - 1) 0 ≤ length p
  pub there : (code : ℕ) → code ≡ value_of (take (get_or p (place - 1) 0) (drop place p)) % 2 ^ 64
      → in_house (to_house t (get_or p (place - 1) 0) code) ≡ x

pub record HeightStands (p : List ℕ) (t : ℕ) (found : Option ℕ) (x : Value) : Type 0 where
  pub none : None ≡ found → Absent ≡ x
  pub at : (place : ℕ) → Some place ≡ found → HeightStandsAt p t place x

-- what it is to be found
record Finding (K : TagSet) (places : List ℕ) (t place : ℕ) : Type 0 where
  known : holds K t ≡ true
  some : 0 < place
  at : place ≡ get_or places t 0

finding : (K : TagSet) (places : List ℕ) (t place : ℕ) → Some place ≡ place_found K places t → Finding K places t place
finding K places t place e =
    by_bool (holds K t)
    (λ k. by_eq (get_or places t 0) 0
    (λ z. let f : Some place ≡ None = rw (k, eq-eqb _ _ z) at e in never (cc))
    (λ n.
    let f : Some place ≡ Some (get_or places t 0) = rw (k, ne_eqb _ _ n) at e in
    let at : place ≡ get_or places t 0 = cc in
    record { known = k; some = omega (arith, n, at); at = at }))
    (λ k. let f : Some place ≡ None = rw k at e in never (cc))

-- the items of an accepted packet
record Itemized (K : TagSet) (p found : List ℕ) : Type 0 where
  items : List pieces.Item
  accepted : received K p ≡ given items
  places : found ≡ places_from no_places items

items_of : (K : TagSet) (p found : List ℕ) → Placed K p found → Itemized K p found
items_of K p found a = go (received K p) refl a.accepted a.places
  where
    go : (r : Answer (List pieces.Item)) → received K p ≡ r → or_else false (λ _. true) r ≡ true
        → found ≡ or_else no_places (places_from no_places) r → Itemized K p found
    go (given is) e f g = record { items = is; accepted = e; places = g }
    go (refused n q t) e f g = clash (sym f)

module _ (K : TagSet) (p places : List ℕ) (placed : Placed K p places) (t : ℕ) where
  w : Words K
  w = record { low64 = placed.low64; high64 = placed.high64 }

  pub below_held : holds K t ≡ true → t < 128
  below_held e = by_lt t 128 (λ h. h) (λ h. clash (sym e ∙ holds_none K w t h))

  a : Itemized K p places
  a = items_of K p places placed

  held : rows_held K p ≡ rows_of (holds K) a.items
  held = ap (or_else [] (rows_of (holds K))) a.accepted

  absent : holds K t ≡ false → Absent ≡ value_for t (rows_held K p)
  absent e = sym (ap (value_for t) held ∙ unknown (holds K) t e a.items)

  shape_listed : holds K t ≡ true → is_listed (shape_for (holds K) t) ≡ true
  shape_listed e = known_listed K (good_means K w (accepting K p a.items placed.bytes a.accepted).known) t ∙ e

  known_told : (e : holds K t ≡ true) (some : 0 < t) (says : InHouse K t)
      → Told K p t e some (below_held e) (shape_listed e) says (get_or (places_from no_places a.items) t 0) (rows_of (holds K) a.items)
  known_told e some says =
      let is : List pieces.Item = a.items in
      let accepts = accepting K p is placed.bytes a.accepted in
      let c = fine_clean (holds K) (pieces.pieces is) accepts.clean in
      let below : t < 128 = below_held e in
      told K p t e some below (shape_listed e) says placed.bytes accepts.short no_places is (length-replicate {A = ℕ} 128 0)
      (get_or-replicate {A = ℕ} 128 t 0 0 below) (walked p placed.bytes 128 (start_of 0 is) is accepts.fills) c.sized c.once

  placed_at : get_or places t 0 ≡ get_or (places_from no_places a.items) t 0
  placed_at = ap (λ l. get_or l t 0) a.places

  nowhere : 0 < t → (holds K t ≡ true → InHouse K t) → None ≡ place_found K places t → Absent ≡ value_for t (rows_held K p)
  nowhere some says f =
      by_bool (holds K t)
      (λ e. by_eq (get_or places t 0) 0
      (λ z. sym (ap (value_for t) held ∙ (known_told e some (says e)).none (sym placed_at ∙ z)))
      (λ n. let g : None ≡ Some (get_or places t 0) = rw (e, ne_eqb _ _ n) at f in never (cc)))
      absent

  -- by the scale of a tag of its group
  module _ (u width : ℕ) (k : Like t u width) where
    tag_some : (t ≡ 0 → ⊥)
    unfolding item_of item_in member groups
    tag_some z = let f : None ≡ Some (item_with 0 k.group) = rw z at k.one in never (cc)

    like_says : holds K t ≡ true → InHouse K t
    like_says e = scaled_says K p t (item_with t k.group) e (its_scale k)

    stands_at : (end : ℕ) → Some end ≡ place_found K places t → StandsAt p u width end (value_for t (rows_held K p))
    stands_at end f =
        let q = finding K places t end f in
        let s = its_scale k in
        let g : ℕ = k.group.width in
        let narrow : g < 5 = (scaled_rule s).narrow in
        let same : end ≡ get_or (places_from no_places a.items) t 0 = q.at ∙ placed_at in
        let y = (known_told q.known (omega (arith, tag_some)) (like_says q.known)).there (omega (arith, q.some, same)) in
        let size : y.header.size ≡ g = sized_so K p t (item_with t k.group) q.known s _ y.bytes y.allowed in
        let past : end ≡ y.header.place + y.header.size = same ∙ (y.found ∙ rw (ne_eqb _ 0 y.bytes, scaled_plain s)) in
        rw (held, ← k.wide) (record {
          inside = omega (arith, past, y.lies.inside);
          wide = omega (arith, past, size);
          there = λ code c.
              let n : end - (end - g) ≡ y.header.size = omega (arith, past, size) in
              let at : end - g ≡ y.header.place = omega (arith, past, size) in
              let v : List ℕ = take y.header.size (drop y.header.place p) in
              let few : length v ≤ 8 = rw length-take (omega (arith, narrow, size)) in
              let e : code ≡ value_of v = rw (n, at) at c ∙ whole_code v (bytes_take y.header.size _ (bytes_drop y.header.place placed.bytes)) few in
              ap (λ x. in_house (to_house u g x)) e ∙ (same-house k g y.header.size (value_of v) ∙ sym y.value);
        })

    pub stands : Stands p u width (place_found K places t) (value_for t (rows_held K p))
    stands = record { none = nowhere (omega (arith, tag_some)) like_says; at = stands_at }

  -- of an extended height
  module _ (x : is_extended t ≡ true) where
    height_says : holds K t ≡ true → InHouse K t
    unfolding value_for value_by row_of shape_for
    height_says e j bytes size rs q = rw (q, e, extended_shape t x, ne_eqb _ 0 bytes, eq-eqb t t refl, size)

    height_some : 0 < t
    unfolding is_extended
    height_some = omega (arith, leb-true 103 t (both_left (leb 103 t) _ x))

    height_few : (n : ℕ) → (n ≡ 0 → ⊥) → right_length t n ≡ true → n ≤ 4
    unfolding right_length
    height_few n bytes h = leb-true n 4 (both_right (leb 2 n) _ (rw (extended_shape t x) at (right_some t n (shape_of t) h bytes)))

    height_stands_at : (place : ℕ) → Some place ≡ place_found K places t → HeightStandsAt p t place (value_for t (rows_held K p))
    height_stands_at place f =
        let q = finding K places t place f in
        let same : place ≡ get_or (places_from no_places a.items) t 0 = q.at ∙ placed_at in
        let y = (known_told q.known height_some (height_says q.known)).there (omega (arith, q.some, same)) in
        let few : y.header.size ≤ 4 = height_few _ y.bytes y.allowed in
        let here : place ≡ y.header.place = same ∙ (y.found ∙ rw (ne_eqb _ 0 y.bytes, x)) in
        let size : get_or p (place - 1) 0 ≡ y.header.size = ap (λ k. get_or p (k - 1) 0) here ∙ y.lies.told (omega (arith, few)) in
        rw held (record {
          before = omega (arith, here, y.lies.inside, y.lies.two, q.some);
          inside = omega (arith, here, size, y.lies.inside);
          there = λ code c.
              let v : List ℕ = take y.header.size (drop y.header.place p) in
              let long : length v ≤ 8 = rw length-take (omega (arith, few)) in
              let e : code ≡ value_of v =
              c ∙ (ap₂ (λ n b. value_of (take n (drop b p)) % 2 ^ 64) size here
              ∙ whole_code v (bytes_take y.header.size _ (bytes_drop y.header.place placed.bytes)) long) in
              rw (size, e) (sym y.value);
        })

    pub height_stands : HeightStands p t (place_found K places t) (value_for t (rows_held K p))
    height_stands = record { none = nowhere height_some height_says; at = height_stands_at }

-- the answer of a packet that was looked through
pub placed_so : (K : TagSet) (p : List ℕ) (l : Located) → Words K → Bytes p → located K p ≡ given l → Placed K p l.places
unfolding located
placed_so K p l w by e =
    let q = map_given (located_of (holds K)) (received K p) e in
    record {
      low64 = w.low64;
      high64 = w.high64;
      bytes = by;
      accepted = ap (or_else false (λ _. true)) q.1;
      places = ap (λ x. x.places) (sym q.2) ∙ sym (ap (or_else no_places (places_from no_places)) q.1);
    }

pub refused_so : {A : Type 0} (f : List RowWords → A) (K : TagSet) (p : List ℕ) (x : Refusal) → located K p ≡ refusal x → refusal x ≡ from_rows f K p
unfolding from_rows located
refused_so f K p x e = rw (map_refused (located_of (holds K)) (received K p) _ _ _ e)

pub held_so : {A : Type 0} (f : List RowWords → A) (K : TagSet) (p : List ℕ) (l : Located) → located K p ≡ given l → given (f (rows_held K p)) ≡ from_rows f K p
unfolding from_rows located
held_so f K p l e =
    let q = map_given (located_of (holds K)) (received K p) e in
    ap (λ r. given (f (or_else [] (rows_of (holds K)) r))) q.1 ∙ sym (ap (map (λ is. f (rows_of (holds K) is))) q.1)
