-- What the rows of an accepted packet say of a scaled tag that the receiver knows: nothing where no row has the tag or it is withdrawn, off the
-- Earth just where the row is a mark, and otherwise the reading in house units, which is never refused.
-- Assumes nothing.
use Prim.Native.Nat.{ℕ, ◌+◌, ◌*◌, ◌^◌}
use native.Mathlib.Omega.{arith}
use mathlib.Core.Path.{◌≡◌, sym, ap, ◌∙◌}
use mathlib.Core.Bool.{Bool, true, false, ◌&&◌}
use mathlib.Core.Logic.{◌⊎◌, inl, inr, ⊎_elim}
use mathlib.Core.List.{List, [], ◌∷◌}
use lib.Dec.{ltb, leb, eqb}
use lib.ListN.{length}
use borrow.Author.Tests.{eqb-true, leb-true, eq-eqb, ne_eqb}
use Rattle.base.proofs.Cases.{by_bool, by_eq, clash}
use Rattle.base.specs.Every.{Each}
use Rattle.base.proofs.Every.{both_left, both_right}
use Rattle.refusal.specs.Answer.{given}
use Rattle.number.specs.Stored.{Bytes}
use Rattle.tagset.specs.Sets.{holds}
use Rattle.tagset.specs.declared.TagSet.{TagSet}
use Rattle.knowing.specs.Good.{good}
use Rattle.catalogue.specs.Items.{groups, member, item_in, item_of}
use Rattle.catalogue.specs.Shapes.{is_marked, shape_of, shape_allows}
use Rattle.catalogue.specs.declared.Item.{Item}
use Rattle.catalogue.specs.declared.Shape.{Shape}
use Rattle.catalogue.specs.declared.Shape.TheVariants.{Number}
use Rattle.rows.specs.Meaning.{shape_for, mark_code, value_as, kind_of, kind_for, is_number as number}
use Rattle.rows.specs.declared.RowWords.{RowWords}
use Rattle.rows.specs.Taken.{part_length, code_good, content_good, row_good, tag_good, row_says, GoodRow}
use Rattle.packet.specs.Pieces as pieces
use Rattle.packet.specs.Judge.{Knowing}
use Rattle.packet.specs.Verdict.{received}
use Rattle.packet.specs.Rows.{rows_of}
use Rattle.refusal.proofs.Answers.{passed}
use Rattle.laws.proofs.Rows.{rows_good}
use Rattle.scale.specs.Scales.{scaled, codes, half, is_number}
use Rattle.scale.specs.Conversions.{house_of}
use Rattle.scale.proofs.Given.{Scaled, scaled_rule, every_code_converts}
use Rattle.ground.specs.Values.{value_by, value_for}
use Rattle.ground.specs.declared.Value.{Value}
use Rattle.ground.specs.declared.Value.TheVariants.{Absent, Off, At}
use Rattle.std.specs.Prelude.{Option, Some, None}

pub data In (r : RowWords) : List RowWords → Type 0 where
  here : {rs : List RowWords} → In r (r ∷ rs)
  there : {s : RowWords} {rs : List RowWords} → In r rs → In r (s ∷ rs)

pub data Says (i : Item) (t : ℕ) (rs : List RowWords) : Value → Type 0 where
  nothing : Each (λ r. r.tag ≡ t → r.kind ≡ 5) rs → Says i t rs Absent
  a_mark : (r : RowWords) → In r rs → r.tag ≡ t → r.kind ≡ 2 → Says i t rs Off
  a_reading : (r : RowWords) → In r rs → r.tag ≡ t → r.kind ≡ 1 → Says i t rs (At (house_of i r.code))

says_after : {i : Item} {t : ℕ} {rs : List RowWords} {v : Value} (r : RowWords) → (r.tag ≡ t → r.kind ≡ 5) → Says i t rs v → Says i t (r ∷ rs) v
says_after r n (nothing e) = nothing (n, e)
says_after r n (a_mark s m e k) = a_mark s (there m) e k
says_after r n (a_reading s m e k) = a_reading s (there m) e k

-- a row of either kind is a number
a_number : (r : RowWords) → (r.kind ≡ 2) ⊎ (r.kind ≡ 1) → number (row_says r) ≡ true
a_number r k = ⊎_elim (λ e. rw e) (λ e. rw e) k

-- and a withdrawn one is none
no_number : (r : RowWords) → r.kind ≡ 5 → number (row_says r) ≡ false
no_number r e = rw e

-- the checksum has no scale
scaled_by : Option Item → Bool
scaled_by (Some i) = scaled i
scaled_by None = false

unscaled_sum : (i : Item) → Scaled 1 i → ⊥
unfolding groups member item_in item_of scaled_by
unscaled_sum i s = clash (sym (ap scaled_by s.known ∙ s.has_scale))

module _ (K : Knowing) (b : List ℕ) (t : ℕ) (i : Item) (knows : K t ≡ true) (s : Scaled t i) where
  some_bytes : eqb i.width 0 ≡ false
  unfolding half codes
  some_bytes =
      by_eq i.width 0
      (λ z. let e : half i + half i ≡ codes i = (scaled_rule s).halves in absurd (omega (arith, rw z at e)))
      (λ n. ne_eqb _ _ n)

  pub shape_is : shape_for K t ≡ Number i.width i.width (is_marked i.sign)
  unfolding shape_for shape_of
  shape_is = rw (knows, s.known, some_bytes)

  abbrev marked : RowWords → Bool
  marked r = is_marked i.sign && eqb r.code (mark_code i.width)

  -- a row of the tag that is not bad is a mark or a number
  module _ (r : RowWords) (e : r.tag ≡ t) (g : GoodRow K b r) where
    abbrev shape : Shape
    shape = Number i.width i.width (is_marked i.sign)

    abbrev n : ℕ
    n = part_length r.part

    parts : eqb r.kind (kind_for shape r.code n) && content_good shape (length b) r ≡ true
    unfolding row_good
    parts = both_right (tag_good r.tag) _ (rw (ap (shape_for K) e ∙ shape_is) at g)

    kind_is : r.kind ≡ kind_for shape r.code n
    kind_is = eqb-true _ _ (both_left (eqb r.kind (kind_for shape r.code n)) _ parts)

    no_sum : eqb r.tag 1 ≡ false
    no_sum = by_eq r.tag 1 (λ z. absurd (unscaled_sum i (rw (← z, e) s))) (λ n. ne_eqb _ _ n)

    -- withdrawn, where it has no bytes
    withdrawn_says : n ≡ 0 → r.kind ≡ 5
    withdrawn_says z = rw z at kind_is

    module _ (some : n ≡ 0 → ⊥) where
      value_kind : r.kind ≡ kind_of (value_as {A = Unit {0}} shape r.code n tt)
      value_kind = rw (ne_eqb n 0 some) at kind_is

      content : (shape_allows shape n && code_good r.tag n r.code) ≡ true
      content = rw (ne_eqb n 0 some) at (both_right (eqb r.kind (kind_for shape r.code n)) _ parts)

      size_is : n ≡ i.width
      size_is =
          let a = both_left (shape_allows shape n) _ content in
          omega (arith, leb-true i.width n (both_left (leb i.width n) _ a), leb-true n i.width (both_right (leb i.width n) _ a))

      fits : ltb r.code (2 ^ (8 * i.width)) ≡ true
      fits = rw (no_sum, size_is) at (both_right (shape_allows shape n) _ content)

      mark_says : marked r ≡ true → (r.kind ≡ 2) × (value_by r ≡ Off)
      unfolding value_by
      mark_says m = let k : r.kind ≡ 2 = rw m at value_kind in (k, rw k)

      reading_says : marked r ≡ false → (r.kind ≡ 1) × (value_by r ≡ At (house_of i r.code))
      unfolding value_by codes half
      reading_says m =
          let k : r.kind ≡ 1 = rw m at value_kind in
          let converts : is_number i r.code ≡ true = rw (fits, m) in
          (k, rw (k, e, every_code_converts s n r.code converts))

  value_says : (rs : List RowWords) → Each (GoodRow K b) rs → Says i t rs (value_for t rs)
  unfolding value_for
  value_says [] g = nothing tt
  value_says (r ∷ rs) g =
      by_eq r.tag t
      (λ e. by_eq (part_length r.part) 0
      (λ z. let k = withdrawn_says r e g.0 z in rw (eq-eqb _ _ e, no_number r k) (says_after r (λ _. k) (value_says rs g.1)))
      (λ some. by_bool (marked r)
      (λ m. let y = mark_says r e g.0 some m in rw (eq-eqb _ _ e, a_number r (inl y.0), y.1) (a_mark r here e y.0))
      (λ m. let y = reading_says r e g.0 some m in rw (eq-eqb _ _ e, a_number r (inr y.0), y.1) (a_reading r here e y.0))))
      (λ n. rw (ne_eqb _ _ n) (says_after r (λ e. absurd (n e)) (value_says rs g.1)))

pub present : (K : TagSet) (p : List ℕ) (is : List pieces.Item) → Bytes p → received K p ≡ given is → (t : ℕ) (i : Item) → holds K t ≡ true → Scaled t i
    → Says i t (rows_of (holds K) is) (value_for t (rows_of (holds K) is))
unfolding received
present K p is by e t i knows s =
    value_says (holds K) p t i knows s (rows_of (holds K) is) (rows_good (holds K) p is by (passed (good K) _ 1 0 0 e).1)
