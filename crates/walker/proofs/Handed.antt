-- The walker hands out the reader's rows: from the start to "no more" just those of the accepted packet, in their order, each where it
-- stands, its value being the bytes at the row's place; and where there are no more there are none again.
-- Assumes nothing.
use Prim.Native.Nat.{ℕ, zero, suc, ◌+◌, ◌*◌, ◌%◌, ◌^◌, ◌<◌, ◌≤◌}
use native.Mathlib.Omega.{arith}
use native.Mathlib.Nat.{mod-eq_of_lt, pow-le-pow_right}
use mathlib.Core.Path.{◌≡◌, refl, sym, ap₂, ◌∙◌}
use mathlib.Core.Bool.{Bool}
use lib.Dec.{leb}
use borrow.Author.Tests.{leb-true}
use mathlib.Core.List.{List, [], ◌∷◌}
use lib.Arith.{digits_div, digits_mod}
use lib.ListN.{length, drop, length-drop}
use lib.Seq.{length-take-le}
use Rattle.base.proofs.Cases.{by_bool, by_lt, by_eq, never}
use Rattle.base.specs.Every.{Each}
use Rattle.base.proofs.Every.{both_right}
use Rattle.base.proofs.Parts.{nil_at}
use Rattle.refusal.specs.Answer.{Answer, given, refused}
use Rattle.number.specs.Stored.{Bytes, value_of}
use Rattle.number.proofs.Laws.{value_small}
use Rattle.ber.specs.Read.{read_tag}
use Rattle.tagset.specs.Sets.{holds}
use Rattle.tagset.specs.declared.TagSet.{TagSet}
use Rattle.knowing.specs.Good.{good}
use Rattle.catalogue.proofs.Columns.{number_ranged, right_some}
use Rattle.catalogue.specs.declared.Shape.{Shape}
use Rattle.catalogue.specs.declared.Shape.TheVariants.{Text, Number, Absent}
use Rattle.catalogue.specs.Shapes.{is_empty}
use Rattle.rows.specs.Meaning.{shape_for, value_as, seen_as, meaning_of, kind_of, code_of}
use Rattle.rows.proofs.Laws.{kind_valued, code_valued}
use Rattle.rows.specs.declared.RowWords.{RowWords}
use Rattle.rows.specs.Taken.{part_place, part_length, row_says, content_of}
use Rattle.packet.specs.Pieces.{Item, pieces, walk, before, read_item}
use Rattle.packet.specs.Said.{header_at}
use Rattle.packet.specs.code.Headers.{item_by}
use Rattle.packet.specs.Verdict.{verdict, received, checked, start_of}
use Rattle.packet.specs.Rows.{row_of, rows_of, rows_in, bytes_at, Filled, read_answer, read_table}
use Rattle.packet.specs.declared.Header.{Header}
use Rattle.packet.proofs.Walks.{walk_end, walk_full, walk_refused, walk_item, header_lies}
use Rattle.packet.proofs.Accepting.{accepting}
use Rattle.refusal.proofs.Answers.{passed}
use Rattle.laws.proofs.Sent.{Lies, lies_bytes, bytes_back, SizedFor, shape_sized, accepted_lie, accepted_sized}
use Rattle.laws.proofs.Tables.{has_received}
use Rattle.walker.specs.Steps.{header_value, header_part, seen_in, row_seen, seen_by, part_by, next_by, seen_at, part_at, next_at, start_place}
use Rattle.walker.specs.declared.Standing.{Standing}
use Rattle.std.specs.Prelude.{Option, Some, None}

-- an item as it is handed out
pub record Handed : Type 0 where
  pub item : Standing
  pub value : List ℕ

abbrev pub on_seen : Option Standing → List ℕ → List Handed → List Handed
on_seen (Some s) v rest = record { item = s; value = v } ∷ rest
on_seen None v rest = []

-- what is handed out from a place on, in at most n steps
unfoldable pub handed : ℕ → TagSet → List ℕ → ℕ → List Handed
handed zero K p at = []
handed (suc n) K p at = on_seen (seen_at K p at) (part_at p at) (handed n K p (next_at p at))

-- a row of the reader's where its value stands, the place after it among the rest
abbrev pub stands_as : RowWords → Standing
stands_as r =
    record {
      tag = r.tag;
      kind = r.kind;
      code = r.code;
      place = part_place r.part;
      length = part_length r.part;
      next = part_place r.part + part_length r.part;
    }

-- with the bytes at its place
abbrev pub handed_row : TagSet → List ℕ → RowWords → Handed
handed_row K p r = record { item = stands_as r; value = bytes_at p r }

-- taken out singly it is what the row says
pub handed-row : (r : RowWords) → row_seen (stands_as r) ≡ record { tag = r.tag; content = content_of (row_says r) }
unfolding row_seen
handed-row r = refl

unfoldable pub handed_rows : TagSet → List ℕ → List RowWords → List Handed
handed_rows K p [] = []
handed_rows K p (r ∷ rs) = handed_row K p r ∷ handed_rows K p rs

-- where there are no more, there are none again, and no bytes
pub none_again : (K : TagSet) (p : List ℕ) (at : ℕ) → seen_at K p at ≡ None → (next_at p at ≡ at) × (part_at p at ≡ [])
unfolding seen_at next_at part_at
none_again K p at e = go (header_at p at) refl e
  where
    go : (a : Answer Header) → header_at p at ≡ a → seen_by K p a ≡ None → (next_by at a ≡ at) × (part_by p a ≡ [])
    go (given h) f g = never (cc)
    go (refused n b t) f g = (refl, refl)

module _ (K : TagSet) (p : List ℕ) where
  -- there are no more where the packet ends
  pub end_none : (at : ℕ) → length p ≤ at → seen_at K p at ≡ None
  unfolding seen_at header_at read_item read_tag
  end_none at h = rw (nil_at p at h)

  hands_none : (n at : ℕ) → length p ≤ at → handed n K p at ≡ []
  unfolding handed
  hands_none zero at h = refl
  hands_none (suc n) at h = rw (end_none at h)

  -- the item is handed out as its row is
  module _ (by : Bytes p) (h : Header) (inside : h.place + h.size ≤ length p) (l : Lies p (item_by p h)) (s : SizedFor (holds K) (item_by p h).piece) where
    long : length (header_value p h) ≡ h.size
    long = length-take-le h.size (drop h.place p) (rw length-drop (omega arith))

    -- a number has at most eight bytes
    narrow : (least m : ℕ) (k : Bool) → shape_for (holds K) h.tag ≡ Number least m k → m ≤ 8
    unfolding shape_for
    narrow least m k e =
        by_bool (holds K h.tag)
        (λ b. (number_ranged h.tag least m k (rw b at e)).few)
        (λ b. let f : Absent ≡ Number least m k = rw b at e in never (cc))

    fits : (least m : ℕ) (k : Bool) → shape_for (holds K) h.tag ≡ Number least m k → value_of (header_value p h) < 2 ^ 64
    fits least m k e =
        let n : ℕ = length (header_value p h) in
        let right = shape_sized (holds K) (item_by p h).piece (Number least m k) refl s e in
        let size : n ≤ m = by_eq n 0 (λ z. omega arith) (λ some.
        leb-true n m (both_right (leb least n) _ (right_some h.tag n (Number least m k) right some))) in
        let few : m ≤ 8 = narrow least m k e in
        omega (
          arith,
          value_small (header_value p h) (lies_bytes p (item_by p h) by l),
          pow-le-pow_right {n = 256} (omega arith) {i = n} {j = 8} (omega (arith, size, few)),
        )

    same_place : part_place (h.place * 65536 + length (header_value p h)) ≡ h.place
    same_place = digits_div h.place l.short

    same_size : part_length (h.place * 65536 + length (header_value p h)) ≡ h.size
    same_size = digits_mod h.place l.short ∙ long

    -- kind and code do not ask where the value stands
    kind_values : (x : Shape) → shape_for (holds K) h.tag ≡ x
        → kind_of (value_as x (value_of (header_value p h) % 2 ^ 64) h.size (header_part h))
        ≡ kind_of (value_as x (value_of (header_value p h)) h.size (header_value p h))
    kind_values (Number least m k) e =
        rw (mod-eq_of_lt (fits least m k e)) (kind_valued h.size (header_part h) h.size (header_value p h) (Number least m k) _)
    kind_values Text e = refl
    kind_values Absent e = refl

    code_values : (x : Shape) → shape_for (holds K) h.tag ≡ x
        → code_of (value_as x (value_of (header_value p h) % 2 ^ 64) h.size (header_part h))
        ≡ code_of (value_as x (value_of (header_value p h)) h.size (header_value p h))
    code_values (Number least m k) e =
        rw (mod-eq_of_lt (fits least m k e)) (code_valued h.size (header_part h) least m k _ ∙ sym (code_valued h.size (header_value p h) least m k _))
    code_values Text e = refl
    code_values Absent e = refl

    module _ (x : Shape) (e : shape_for (holds K) h.tag ≡ x) where
      same_kind : kind_of (seen_as x (value_of (header_value p h) % 2 ^ 64) h.size (header_part h)) ≡ kind_of (meaning_of x (header_value p h))
      same_kind = by_bool (is_empty x h.size) (λ z. rw (long, z)) (λ z. rw (long, z) (kind_values x e))

      same-code : code_of (seen_as x (value_of (header_value p h) % 2 ^ 64) h.size (header_part h)) ≡ code_of (meaning_of x (header_value p h))
      same-code = by_bool (is_empty x h.size) (λ z. rw (long, z)) (λ z. rw (long, z) (code_values x e))

    same-item : ◌≡◌ {A = Handed} (record { item = seen_in K p h; value = header_value p h }) (handed_row K p (row_of (holds K) (item_by p h)))
    unfolding seen_in row_of
    same-item =
        let k = same_kind (shape_for (holds K) h.tag) refl in
        let c = same-code (shape_for (holds K) h.tag) refl in
        let a = sym same_place in
        let n = sym same_size in
        let v = sym (bytes_back (holds K) p (item_by p h) l) in
        λ i. record { item = record { tag = h.tag; kind = k i; code = c i; place = a i; length = n i; next = a i + n i }; value = v i }

  hands_end : (n at : ℕ) (is : List Item) → length p ≤ at → walk n at (drop at p) ≡ given is → handed (suc n) K p at ≡ handed_rows K p (rows_of (holds K) is)
  unfolding handed_rows rows_of
  hands_end n at is h w =
      let e : given [] ≡ given is = sym (walk_end p at n h) ∙ w in
      let f : [] ≡ is = cc in
      rw (hands_none (suc n) at h, ← f)

  abbrev Hands : ℕ → Type 0
  Hands n =
      (at : ℕ) (is : List Item) → walk n at (drop at p) ≡ given is → Each (Lies p) is → Each (SizedFor (holds K)) (pieces is)
      → handed (suc n) K p at ≡ handed_rows K p (rows_of (holds K) is)

  module _ (by : Bytes p) where
    -- an item, and then the others
    hands_one : (n at : ℕ) (is : List Item) (i : Header) → Hands n → header_at p at ≡ given i → (a : Answer (List Item))
        → walk n (i.place + i.size) (drop (i.place + i.size) p) ≡ a → before (item_by p i) a ≡ given is → Each (Lies p) is
        → Each (SizedFor (holds K)) (pieces is)
        → handed (suc (suc n)) K p at ≡ handed_rows K p (rows_of (holds K) is)
    unfolding handed seen_at part_at next_at handed_rows rows_of
    hands_one n at is i others e (refused r b g) f q l s = never (cc)
    hands_one n at is i others e (given js) f q l s =
        let same : item_by p i ∷ js ≡ is = cc in
        let l' : Each (Lies p) (item_by p i ∷ js) = rw (← same) at l in
        let s' : Each (SizedFor (holds K)) (pieces (item_by p i ∷ js)) = rw (← same) at s in
        let inside : i.place + i.size ≤ length p = (header_lies p at by i e).inside in
        rw (← same, e) (ap₂ ◌∷◌ (same-item by i inside l'.0 s'.0) (others (i.place + i.size) js f l'.1 s'.1))

    hands_on : (n at : ℕ) (is : List Item) → Hands n → at < length p → (a : Answer Header) → header_at p at ≡ a → walk (suc n) at (drop at p) ≡ given is
        → Each (Lies p) is → Each (SizedFor (holds K)) (pieces is) → handed (suc (suc n)) K p at ≡ handed_rows K p (rows_of (holds K) is)
    hands_on n at is others h (refused r b g) e w l s = let f : refused r b g ≡ given is = sym (walk_refused p at h n r b g e) ∙ w in never (cc)
    hands_on n at is others h (given i) e w l s =
        hands_one n at is i others e (walk n (i.place + i.size) (drop (i.place + i.size) p)) refl (sym (walk_item p at h n i e) ∙ w) l s

    hands_walk : (n : ℕ) → Hands n
    hands_walk zero at is w l s =
        by_lt at (length p)
        (λ h. let f : refused 6 at 0 ≡ given is = sym (walk_full p at h) ∙ w in never (cc))
        (λ h. hands_end zero at is h w)
    hands_walk (suc n) at is w l s =
        by_lt at (length p) (λ h. hands_on n at is (hands_walk n) h (header_at p at) refl w l s) (λ h. hands_end (suc n) at is h w)

  pub hands_rows : (t : List ℕ) (done : Filled) → Bytes p → read_answer K p t ≡ given done
      → handed 129 K p (start_place K p) ≡ handed_rows K p (rows_in 0 done.count (read_table K p t))
  unfolding start_place checked received
  hands_rows t done by e =
      let r = has_received K p t done e in
      let a = accepting K p r.items by r.accepted in
      let v = (passed (good K) (verdict (holds K) p) 1 0 0 r.accepted).1 in
      rw (r.rows, r.accepted)
      (hands_walk by 128 (start_of 0 r.items) r.items a.fills (accepted_lie (holds K) p r.items by v) (accepted_sized (holds K) p r.items by v))
