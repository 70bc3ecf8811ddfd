-- A row's value by its kind: how many bytes it has, and that it is the one that a receiver gives a row that is not bad.
-- Assumes nothing.
use Prim.Native.Nat.{ℕ, ◌<◌, ◌≤◌}
use native.Mathlib.Omega.{arith}
use mathlib.Core.Path.{◌≡◌, refl, ap₂, sym, ◌∙◌}
use mathlib.Core.Bool.{true, false, ◌&&◌}
use mathlib.Core.List.{List, [], ◌∷◌}
use lib.ListN.{length, drop, length-drop}
use lib.Seq.{length-take-le}
use lib.Dec.{ltb, eqb}
use borrow.Author.Tests.{lt-ltb, le-ltb, ltb-true, eqb-true, leb-true}
use Rattle.base.specs.Every.{Each}
use Rattle.base.proofs.Cases.{by_bool, by_lt, by_eq}
use Rattle.base.proofs.Every.{both_left, both_right}
use Rattle.number.specs.Stored.{bytes_of}
use Rattle.number.proofs.Laws.{length_bytes_of}
use Rattle.catalogue.specs.Shapes.{is_listed, is_empty}
use Rattle.catalogue.specs.declared.Shape.{Shape}
use Rattle.catalogue.specs.declared.Shape.TheVariants.{Text, Number, Absent}
use Rattle.rows.specs.Meaning.{shape_for, mark_code, value_as, withdrawn_kind, kind_of, kind_for}
use Rattle.rows.specs.declared.RowWords.{RowWords}
use Rattle.rows.specs.Taken.{part_place, part_length, tag_good, part_good, value_good, row_good, GoodRow}
use Rattle.packet.specs.Judge.{Knowing}
use Rattle.packet.specs.Rows.{bytes_at, row_value, piece_of, pieces_of}
use Rattle.laws.proofs.Sent.{none_spelled}
use Rattle.writer.specs.code.Putting.{value_said, pieces_said, CanPut}

module _ (b : List ℕ) (r : RowWords) where
  abbrev n : ℕ
  n = part_length r.part

  -- a number, and what is none
  pub number_said : r.kind < 3 → value_said b r ≡ bytes_of (part_length r.part) r.code
  number_said h = rw (lt-ltb r.kind 3 h)

  pub part_said : 3 ≤ r.kind → value_said b r ≡ bytes_at b r
  part_said h = rw (le-ltb r.kind 3 h)

  pub said_size : CanPut b r → length (value_said b r) ≡ part_length r.part
  said_size p =
      by_lt r.kind 3 (λ h. rw (number_said h) (length_bytes_of _ _))
      (λ h. rw (part_said h) (by_eq (part_length r.part) 0
      (λ z. rw z)
      (λ some. length-take-le _ (drop (part_place r.part) b) (rw length-drop (omega (arith, p.inside h (omega arith)))))))

  -- a row that is not bad, by its shape
  pub record Said (s : Shape) : Type 0 where
    pub can : CanPut b r
    pub value : value_said b r ≡ row_value s b r

  module _ (tagged : 0 < r.tag) where
    pointed : (s : Shape) → 3 ≤ r.kind → part_good (length b) r.code r.part ≡ true → bytes_at b r ≡ row_value s b r → Said s
    pointed s h g e =
        record {
          can = record { tagged = tagged; inside = λ k some. leb-true _ _ (both_right (eqb r.code 0) _ g) };
          value = part_said h ∙ e;
        }

    said-by : (s : Shape) → is_empty s n ≡ false → r.kind ≡ kind_for s r.code n → value_good s (length b) r ≡ true → Said s
    said-by (Number least most marked) z k g =
        let kind : r.kind ≡ kind_of (value_as {A = Unit {0}} (Number least most marked) r.code n tt) = rw z at k in
        let small : r.kind < 3 = by_bool (marked && eqb r.code (mark_code most)) (λ e. omega (arith, rw e at kind)) (λ e. omega (arith, rw e at kind)) in
        record { can = record { tagged = tagged; inside = λ h some. absurd (omega arith) }; value = number_said small }
    said-by Text z k g = pointed Text (omega (arith, rw z at k)) g refl
    said-by Absent z k g = pointed Absent (omega (arith, k)) g refl

    -- a withdrawn row points at nothing
    none_said : (s : Shape) → n ≡ 0 → row_value s b r ≡ []
    none_said (Number least most marked) z = rw z (none_spelled r.code)
    none_said Text z = rw z
    none_said Absent z = rw z

    said_none : (s : Shape) → n ≡ 0 → r.kind ≡ withdrawn_kind → Said s
    said_none s z k =
        record {
          can = record { tagged = tagged; inside = λ h some. absurd (omega arith) };
          value = part_said (omega (arith, k)) ∙ (none_said Text z ∙ sym (none_said s z));
        }

  said_good : (s : Shape) → row_good s (length b) r ≡ true → Said s
  unfolding row_good
  said_good s g =
      let tag = both_left (tag_good r.tag) _ g in
      let rest = both_right (tag_good r.tag) _ g in
      let some = ltb-true _ _ (both_left (ltb 0 r.tag) _ tag) in
      let kind = eqb-true _ _ (both_left (eqb r.kind (kind_for s r.code n)) _ rest) in
      let content = both_right (eqb r.kind (kind_for s r.code n)) _ rest in
      by_bool (is_empty s n)
      (λ z. said_none some s (eqb-true n 0 (both_right (is_listed s) _ z)) (rw z at kind))
      (λ z. said-by some s z kind (rw z at content))

-- and rows of which none is bad
module _ (K : Knowing) (b : List ℕ) where
  pub all_can : (rs : List RowWords) → Each (GoodRow K b) rs → Each (CanPut b) rs
  all_can [] g = tt
  all_can (r ∷ rs) g = ((said_good b r (shape_for K r.tag) g.0).can, all_can rs g.1)

  pub all_said : (rs : List RowWords) → Each (GoodRow K b) rs → pieces_said b rs ≡ pieces_of K b rs
  unfolding pieces_said pieces_of piece_of
  all_said [] g = refl
  all_said (r ∷ rs) g =
      ap₂ (λ v cs. record { tag = r.tag; value = v } ∷ cs) (said_good b r (shape_for K r.tag) g.0).value (all_said rs g.1)
