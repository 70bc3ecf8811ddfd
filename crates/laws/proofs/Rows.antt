-- A row that is not bad is the row that its receiver gives the piece it stands for, and no row of an accepted packet is bad.
-- Assumes nothing.
use Prim.Native.Nat.{ℕ, ◌+◌, ◌*◌, ◌^◌, ◌<◌}
use native.Mathlib.Omega.{arith}
use mathlib.Core.Path.{◌≡◌, refl, ap₂, sym, ◌∙◌}
use mathlib.Core.Bool.{Bool, true, false, not, ◌&&◌}
use mathlib.Core.List.{List, [], ◌∷◌}
use lib.ListN.{length, length-take, length-drop}
use lib.Arith.{digits_div, digits_mod}
use lib.Dec.{ltb, leb, eqb}
use borrow.Author.Tests.{ltb-true, leb-true, eqb-true, eqb-false, lt-ltb, le-leb, eq-eqb, ne_eqb}
use Rattle.base.proofs.Cases.{by_bool, by_eq, never}
use Rattle.base.specs.Every.{Each}
use Rattle.base.proofs.Every.{both_left, both_right, both_true}
use Rattle.refusal.specs.Answer.{given}
use Rattle.number.specs.Stored.{Bytes, value_of, bytes_of}
use Rattle.number.proofs.Laws.{bits_bytes, bytes_back, length_bytes_of, value_small}
use Rattle.catalogue.specs.Items.{groups, member, item_in, item_of}
use Rattle.catalogue.specs.Shapes.{shape_of, shape_allows, is_listed, is_empty, is_needed}
use Rattle.catalogue.specs.declared.Shape.{Shape}
use Rattle.catalogue.specs.declared.Shape.TheVariants.{Text, Number, Absent}
use Rattle.catalogue.proofs.Columns.{right_some}
use Rattle.rows.specs.Meaning.{shape_for, meaning_of, withdrawn_kind, kind_of, kind_for, code_of}
use Rattle.rows.specs.declared.RowWords.{RowWords}
use Rattle.rows.proofs.Laws.{kind_seen, code_seen}
use Rattle.rows.specs.Taken.{part_place, part_length, tag_good, code_good, value_good, content_good, row_good, GoodRow}
use Rattle.packet.specs.Pieces.{Item, pieces}
use Rattle.packet.specs.Judge.{Knowing}
use Rattle.packet.specs.Verdict.{verdict}
use Rattle.packet.specs.Rows.{row_by, row_of, rows_of, bytes_at, row_value, piece_of, pieces_of}
use Rattle.laws.proofs.Structure.{structure_formed}
use Rattle.laws.proofs.Accepted.{accepts}
use Rattle.laws.proofs.Written.{Tagged}
use Rattle.laws.proofs.Forward.{items_tagged}
use Rattle.laws.proofs.Sent.{Lies, lies_bytes, SizedFor, shape_sized, accepted_sized, accepted_lie}

-- a row as a receiver gives it to the piece that it stands for; the checksum's code is any
pub record Made (K : Knowing) (b : List ℕ) (r : RowWords) : Type 0 where
  pub kind : r.kind ≡ kind_of (meaning_of (shape_for K r.tag) (piece_of K b r).value)
  pub code : (r.tag ≡ 1 → ⊥) → r.code ≡ code_of (meaning_of (shape_for K r.tag) (piece_of K b r).value)
  pub size : part_length r.part ≡ length (piece_of K b r).value

-- the checksum has no mark
sum_unmarked : (K : Knowing) (least most : ℕ) (marked : Bool) → shape_for K 1 ≡ Number least most marked → marked ≡ false
unfolding shape_for shape_of item_of item_in groups member
sum_unmarked K least most marked e =
    by_bool (K 1)
    (λ k. let f : Number 2 2 false ≡ Number least most marked = rw k at e in cc)
    (λ k. let f : Absent ≡ Number least most marked = rw k at e in never (cc))

module _ (K : Knowing) (b : List ℕ) (r : RowWords) where
  abbrev n : ℕ
  n = part_length r.part

  -- of no bytes, whatever its shape
  empty_length : (s : Shape) → n ≡ 0 → length (row_value s b r) ≡ 0
  empty_length (Number least most marked) z = length_bytes_of n r.code ∙ z
  empty_length Text z = rw z
  empty_length Absent z = rw z

  empty_made : is_empty (shape_for K r.tag) n ≡ true → r.kind ≡ withdrawn_kind → r.code ≡ 0 → Made K b r
  unfolding piece_of
  empty_made e k c =
      let l = both_left (is_listed (shape_for K r.tag)) _ e in
      let z = eqb-true n 0 (both_right (is_listed (shape_for K r.tag)) _ e) in
      let none = empty_length (shape_for K r.tag) z in
      record { kind = rw (l, none) k; code = λ other. rw (l, none) c; size = z ∙ sym none }

  number_made : (least most : ℕ) (marked : Bool) → shape_for K r.tag ≡ Number least most marked → (n ≡ 0 → ⊥)
      → r.kind ≡ kind_for (Number least most marked) r.code n → value_good (Number least most marked) (length b) r ≡ true → Made K b r
  unfolding piece_of
  number_made least most marked f some k c =
      let shape : Shape = Number least most marked in
      let size : n ≡ length (bytes_of n r.code) = sym (length_bytes_of n r.code) in
      by_eq r.tag 1
      (λ one.
      let plain : marked ≡ false = sum_unmarked K least most marked (rw one at f) in
      record { kind = rw (f, ← size) (k ∙ rw (plain, ne_eqb n 0 some)); code = λ other. absurd (other one); size = rw f size })
      (λ other.
      let wide : ltb r.code (2 ^ (8 * n)) ≡ true = rw (ne_eqb r.tag 1 other) at (both_right (shape_allows shape n) _ c) in
      let fits : r.code < 256 ^ n = rw (bits_bytes n) at (ltb-true r.code (2 ^ (8 * n)) wide) in
      let back : value_of (bytes_of n r.code) ≡ r.code = bytes_back n r.code fits in
      let v : List ℕ = bytes_of n r.code in
      let kind = k ∙ (ap₂ (kind_for shape) (sym back) size ∙ sym (kind_seen (length v) v shape (value_of v))) in
      let code = sym back ∙ sym (code_seen (length v) v least most marked (value_of v) (λ z. some (size ∙ z))) in
      record { kind = rw f kind; code = λ z. rw f code; size = rw f size })

  -- text and carried bytes have no code, and lie in the buffer
  no_code : value_good Text (length b) r ≡ true → r.code ≡ 0
  no_code c = eqb-true _ _ (both_left (eqb r.code 0) _ c)

  part_size : value_good Text (length b) r ≡ true → n ≡ length (bytes_at b r)
  part_size c =
      let e = leb-true (part_place r.part + n) (length b) (both_right (eqb r.code 0) _ c) in
      rw (length-take, length-drop) (omega (arith, e))

  -- a row that is not bad is made so
  pub good_made : GoodRow K b r → Made K b r
  unfolding row_good piece_of
  good_made e =
      let e' = both_right (tag_good r.tag) _ e in
      let shape : Shape = shape_for K r.tag in
      let kind = eqb-true _ _ (both_left (eqb r.kind (kind_for shape r.code n)) _ e') in
      let content = both_right (eqb r.kind (kind_for shape r.code n)) _ e' in
      by_bool (is_empty shape n)
      (λ z. empty_made z (rw z at kind) (eqb-true _ _ (both_right (not (is_needed r.tag)) _ (rw z at content))))
      (λ z. go shape refl z kind (rw z at content))
    where
      go : (s : Shape) → shape_for K r.tag ≡ s → is_empty s n ≡ false → r.kind ≡ kind_for s r.code n → value_good s (length b) r ≡ true → Made K b r
      go (Number least most marked) f z k c = number_made least most marked f (eqb-false n 0 z) k c
      go Text f z k c = record {
        kind = rw (f, ← (part_size c), z) (rw z at k);
        code = λ other. rw (f, ← (part_size c), z) (no_code c);
        size = rw f (part_size c);
      }
      go Absent f z k c = record { kind = rw f k; code = λ other. rw f (no_code c); size = rw f (part_size c) }

  -- and its piece's tag can be written
  pub good_tagged : GoodRow K b r → Tagged (piece_of K b r)
  unfolding row_good piece_of
  good_tagged e =
      let t = both_left (tag_good r.tag) _ e in
      record { some = ltb-true _ _ (both_left (ltb 0 r.tag) _ t); small = ltb-true _ _ (both_right (ltb 0 r.tag) _ t) }

pub all_made : (K : Knowing) (b : List ℕ) (rs : List RowWords) → Each (GoodRow K b) rs → Each (Made K b) rs
all_made K b [] g = tt
all_made K b (r ∷ rs) g = (good_made K b r g.0, all_made K b rs g.1)

pub all_tagged : (K : Knowing) (b : List ℕ) (rs : List RowWords) → Each (GoodRow K b) rs → Each Tagged (pieces_of K b rs)
unfolding pieces_of
all_tagged K b [] g = tt
all_tagged K b (r ∷ rs) g = (good_tagged K b r g.0, all_tagged K b rs g.1)

-- the row of an item that lies in the packet is not bad
good_row : (K : Knowing) (p : List ℕ) (i : Item) → Bytes p → Tagged i.piece → Lies p i → SizedFor K i.piece → GoodRow K p (row_of K i)
unfolding row_good row_of
good_row K p i by t l s =
    both_true (tag_good i.piece.tag) _ (both_true _ _ (lt-ltb _ _ t.some) (lt-ltb _ _ t.small))
    (go (shape_for K i.piece.tag) refl)
  where
    v : List ℕ
    v = i.piece.value

    size : part_length (i.place * 65536 + length v) ≡ length v
    size = digits_mod i.place l.short

    -- withdrawn, and no item that a packet needs
    emptied : (x : Shape) → shape_for K i.piece.tag ≡ x → is_empty x (length v) ≡ true
        → eqb (kind_of (meaning_of x v)) (kind_for x (code_of (meaning_of x v)) (part_length (row_by x i).part)) && content_good x (length p) (row_by x i) ≡ true
    emptied x f z =
        let free : not (is_needed i.piece.tag) ≡ true = rw z at (shape_sized K i.piece x (both_left (is_listed x) _ z) s f) in
        rw (size, z, free)

    part : leb (part_place (i.place * 65536 + length v) + part_length (i.place * 65536 + length v)) (length p) ≡ true
    part = rw (size, digits_div i.place l.short) (le-leb _ _ l.inside)

    valued : (x : Shape) → shape_for K i.piece.tag ≡ x → is_empty x (length v) ≡ false
        → eqb (kind_of (meaning_of x v)) (kind_for x (code_of (meaning_of x v)) (part_length (row_by x i).part)) && content_good x (length p) (row_by x i) ≡ true
    valued (Number least most marked) f z =
        let some : length v ≡ 0 → ⊥ = eqb-false (length v) 0 z in
        let sized = right_some i.piece.tag (length v) (Number least most marked) (shape_sized K i.piece (Number least most marked) refl s f) some in
        let coded : code_good i.piece.tag (length v) (value_of v) ≡ true =
        by_bool (eqb i.piece.tag 1) (λ e. rw e) (λ e. rw (e, bits_bytes (length v)) (lt-ltb _ _ (value_small v (lies_bytes p i by l)))) in
        rw (
          code_seen (length v) v least most marked (value_of v) some,
          size,
          eq-eqb _ _ (kind_seen (length v) v (Number least most marked) (value_of v)),
          z,
          sized,
        )
        coded
    valued Text f z = rw (size, z) (rw size at part)
    valued Absent f z = part

    go : (x : Shape) → shape_for K i.piece.tag ≡ x
        → eqb (kind_of (meaning_of x v)) (kind_for x (code_of (meaning_of x v)) (part_length (row_by x i).part)) && content_good x (length p) (row_by x i) ≡ true
    go x f = by_bool (is_empty x (length v)) (emptied x f) (valued x f)

good_rows : (K : Knowing) (p : List ℕ) (is : List Item) → Bytes p → Each Tagged (pieces is) → Each (Lies p) is → Each (SizedFor K) (pieces is)
    → Each (GoodRow K p) (rows_of K is)
unfolding rows_of
good_rows K p [] by t l s = tt
good_rows K p (i ∷ is) by t l s = (good_row K p i by t.0 l.0 s.0, good_rows K p is by t.1 l.1 s.1)

-- no row of an accepted packet is bad, the packet being the buffer
pub rows_good : (K : Knowing) (p : List ℕ) (is : List Item) → Bytes p → verdict K p ≡ given is → Each (GoodRow K p) (rows_of K is)
rows_good K p is by e =
    let tags = items_tagged (structure_formed p is by (accepts K p is e).found).items in
    good_rows K p is by tags (accepted_lie K p is by e) (accepted_sized K p is by e)
