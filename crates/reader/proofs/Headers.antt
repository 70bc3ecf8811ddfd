-- Where the items of an accepted packet begin, and the header of an item by its first two bytes.
-- Assumes nothing.
use Prim.Native.Nat.{ℕ, ◌+◌, ◌<◌, ◌≤◌}
use native.Mathlib.Omega.{arith}
use mathlib.Core.Path.{◌≡◌, refl, ap, sym, ◌∙◌}
use mathlib.Core.Bool.{true}
use mathlib.Core.List.{List, [], ◌∷◌}
use lib.Bits.{bit_or}
use lib.Dec.{ltb, eqb}
use lib.ListN.{length, get_or, take, drop}
use borrow.Author.Tests.{lt-ltb}
use Rattle.base.proofs.Cases.{by_lt}
use Rattle.base.proofs.Parts.{byte_at}
use Rattle.refusal.specs.Answer.{given}
use Rattle.refusal.proofs.Answers.{not_given, given_same, passed, missed, then_given}
use Rattle.number.specs.Stored.{Bytes}
use Rattle.number.proofs.Laws.{bytes_drop}
use Rattle.ber.specs.Read.{Read, got, broken, read_tag, read_length}
use Rattle.ber.proofs.Laws.{length_read}
use Rattle.packet.specs.Pieces.{Item, walk}
use Rattle.packet.specs.Ends.{right_ends}
use Rattle.packet.specs.Structure.{key, same, outer_by, frame, ends_of, last_sum, closed, structure}
use Rattle.packet.specs.Verdict.{start_of}
use Rattle.packet.specs.Said.{header_at}
use Rattle.packet.specs.code.Headers.{short_forms}
use Rattle.packet.proofs.Steps.{no-tag, no-length, tag_inside, length_inside, short_past_the_end, short_item}
use Rattle.packet.proofs.Glancing.{or_left, or_right}
use Rattle.packet.proofs.Walked.{walked, first_start}
use Rattle.reader.specs.code.Filling.{ItemAt}

module _ (p : List ℕ) where
  outer_past : (from : ℕ) (r : Read) → outer_by p r ≡ given from → 16 ≤ from
  outer_past from broken e = not_given e
  outer_past from (got n s) e = omega (arith, given_same (passed (eqb (length p) (16 + s + n)) (given (16 + s)) 5 16 0 e).1)

  frame_past : (from : ℕ) → frame p ≡ given from → 16 ≤ from
  unfolding frame
  frame_past from e =
      outer_past from (read_length (drop 16 p)) (passed (same (take 16 p) key) _ 4 0 0 (missed (ltb 8192 (length p)) _ 3 0 0 e).1).1

  module _ (by : Bytes p) where
    starts : (from : ℕ) (is : List Item) → walk 128 from (drop from p) ≡ given is → right_ends (ends_of p is) ≡ given tt → start_of 0 is ≡ from
    unfolding right_ends
    starts from [] w e = not_given e
    starts from (i ∷ is) w e = first_start p i is (walked p by 128 from (i ∷ is) w)

    -- past the key
    pub items_past : (is : List Item) → structure p ≡ given is → 16 ≤ start_of 0 is
    unfolding structure
    items_past is e =
        let a = then_given (frame p) _ e in
        let b = then_given (walk 128 a.between (drop a.between p)) (closed p) a.second in
        let c = then_given (right_ends (ends_of p b.between)) _ b.second in
        let d = then_given (last_sum p b.between) _ c.second in
        let begins = starts a.between b.between b.first c.first in
        omega (arith, frame_past a.between a.first, sym (ap (start_of 0) (given_same d.second)) ∙ begins)

    -- an item has a byte of its tag, which is not 0, and one of its length
    module _ (at : ℕ) (i : ItemAt p at) where
      pub two-bytes : at + 2 ≤ length p
      two-bytes = by_tag (read_tag (drop at p)) refl
        where
          by-length : (t s : ℕ) → read_tag (drop at p) ≡ got t s → (r : Read) → read_length (drop (at + s) p) ≡ r → at + 2 ≤ length p
          by-length t s tag broken q = not_given (sym (no-length p at t s tag q) ∙ i.found)
          by-length t s tag (got n k) q =
              let some = (length_read (drop (at + s) p) n k (bytes_drop (at + s) by) q).some in
              omega (arith, some, tag_inside p at t s tag by, length_inside p at t s tag n k q by)

          by_tag : (r : Read) → read_tag (drop at p) ≡ r → at + 2 ≤ length p
          by_tag broken q = not_given (sym (no-tag p at q) ∙ i.found)
          by_tag (got t s) q = by-length t s q (read_length (drop (at + s) p)) refl

      some_tag : 0 < get_or p at 0
      unfolding read_tag
      some_tag =
          by_lt 0 (get_or p at 0) (λ h. h)
          (λ h. let z : 0 ≡ get_or p at 0 = omega arith in
          not_given (sym (no-tag p at (rw (byte_at p at z (omega (arith, two-bytes))))) ∙ i.found))

      module _ (small : bit_or (get_or p at 0) (get_or p (at + 1) 0) < 128) where
        short : short_forms (get_or p at 0) (get_or p (at + 1) 0) ≡ true
        unfolding short_forms
        short =
            rw (
              lt-ltb 0 (get_or p at 0) some_tag,
              lt-ltb (get_or p at 0) 128 (or_left (get_or p at 0) (get_or p (at + 1) 0) small),
              lt-ltb (get_or p (at + 1) 0) 128 (or_right (get_or p at 0) (get_or p (at + 1) 0) small),
            )

        pub header_short : {t n : ℕ} → t ≡ get_or p at 0 → n ≡ get_or p (at + 1) 0
            → header_at p at ≡ given (record { tag = t; start = at; place = at + 1 + 1; size = n })
        header_short e f =
            let k = two-bytes in
            rw (e, f) (by_lt (length p) (at + 1 + 1 + get_or p (at + 1) 0)
            (λ h. not_given (sym (short_past_the_end p at _ _ refl refl (omega arith) (omega arith) short h) ∙ i.found))
            (λ h. short_item p at _ _ refl refl (omega arith) (omega arith) short h))
