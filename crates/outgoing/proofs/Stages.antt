-- The stages over good rows in their words come to what the definition says of the pieces.
-- Assumes nothing.
use Prim.Native.Nat.{ℕ, zero, suc, ◌+◌, ◌-◌}
use native.Mathlib.Omega.{arith}
use mathlib.Core.Path.{◌≡◌, refl, ap, sym, ◌∙◌}
use mathlib.Core.Bool.{true, false}
use mathlib.Core.List.{List, [], ◌∷◌}
use lib.ListN.{length, length-append}
use borrow.Author.Tests.{ne_eqb}
use Rattle.base.proofs.Cases.{by_bool, by_lt, by_eq, clash}
use Rattle.base.specs.Every.{Each}
use Rattle.refusal.specs.Answer.{Answer, given, refused, map, then}
use Rattle.refusal.proofs.Answers.{passed}
use Rattle.number.specs.Stored.{value_of}
use Rattle.tagset.specs.Sets.{no_tags, holds, with_tag}
use Rattle.tagset.specs.declared.TagSet.{TagSet}
use Rattle.tagset.proofs.Laws.{Words, holds_none}
use Rattle.knowing.specs.Good.{good}
use Rattle.catalogue.specs.Extended.{is_extended}
use Rattle.catalogue.specs.Shapes.{codes_limited, code_allowed}
use Rattle.catalogue.proofs.Columns.{limited_number, codes_free, no_code}
use Rattle.rows.proofs.Laws.{code_seen}
use Rattle.rows.specs.Meaning.{shape_for}
use Rattle.rows.specs.declared.RowWords.{RowWords}
use Rattle.rows.specs.Taken.{part_length, row_good, tag_shown, count_good, row_at, GoodRow}
use Rattle.rows.specs.Present.{present_in}
use Rattle.packet.specs.Pieces.{Piece}
use Rattle.packet.specs.Ends.{right_ends}
use Rattle.packet.specs.Judge.{Knowing, has, among, Fault, clean, wrong, fault_of, Judged, fine, faulty, no_version, later, on_fault, judge_from, judge}
use Rattle.packet.specs.Encode.{items_bytes, encode}
use Rattle.packet.specs.Rows.{rows_in, piece_of, pieces_of}
use Rattle.packet.proofs.Judging.{SeenBy, none_seen, one_seen}
use Rattle.laws.proofs.Written.{length_item, length_encode}
use Rattle.laws.proofs.Rows.{good_made}
use Rattle.outgoing.specs.Outgoing.{right_rows, agrees, right_size, last_piece, ends_of, by_row, sendable, outgoing_with, packed_of}
use Rattle.outgoing.specs.code.Staged.{rows_size, packed_by, row_fault, unless_faulty, rows_judged, ends_in, sized_in, told_in}
use Rattle.std.specs.Prelude.{Option}

-- no row is bad
module _ (K : Knowing) (b : List ℕ) where
  pub all_good : (k : ℕ) (rs : List RowWords) → right_rows K (length b) k rs ≡ given tt → Each (GoodRow K b) rs
  unfolding right_rows
  all_good k [] e = tt
  all_good k (r ∷ rs) e =
      let g = passed (row_good (shape_for K r.tag) (length b) r) _ 17 k (tag_shown r.tag) e in
      (g.0, all_good (suc k) rs g.1)

  pub good_all : (k : ℕ) (rs : List RowWords) → Each (GoodRow K b) rs → right_rows K (length b) k rs ≡ given tt
  unfolding right_rows
  good_all k [] g = refl
  good_all k (r ∷ rs) g = rw g.0 (good_all (suc k) rs g.1)

  -- the items' bytes
  items_size : (rs : List RowWords) → Each (GoodRow K b) rs → length (items_bytes (pieces_of K b rs)) ≡ rows_size rs
  unfolding items_bytes pieces_of piece_of rows_size
  items_size [] g = refl
  items_size (r ∷ rs) g =
      let m = good_made K b r g.0 in
      rw (length-append, length_item, items_size rs g.1, ← m.size) (omega arith)

  packet_size : (rs : List RowWords) → Each (GoodRow K b) rs → packed_of (pieces_of K b rs) ≡ packed_by (rows_size rs)
  packet_size rs g =
      let items : length (items_bytes (pieces_of K b rs)) ≡ rows_size rs = items_size rs g in
      let size : length (encode (pieces_of K b rs)) ≡ (packed_by (rows_size rs)).size = length_encode (pieces_of K b rs) ∙ rw items in
      λ i. record { size = size i; items = items i }

  -- the last row
  each_last : (words : List ℕ) (k n : ℕ) → Each (GoodRow K b) (rows_in k (suc n) words) → GoodRow K b (row_at words (k + n))
  unfolding rows_in
  each_last words k zero g = let e : k + 0 ≡ k = omega arith in rw e g.0
  each_last words k (suc n) g = let e : k + suc n ≡ suc k + n = omega arith in rw e (each_last words (suc k) n g.1)

  last-piece : (words : List ℕ) (k n : ℕ)
      → last_piece (piece_of K b (row_at words k)) (pieces_of K b (rows_in (suc k) n words)) ≡ piece_of K b (row_at words (k + n))
  unfolding rows_in pieces_of
  last-piece words k zero = let e : k ≡ k + 0 = omega arith in ap (λ m. piece_of K b (row_at words m)) e
  last-piece words k (suc n) =
      let e : suc k + n ≡ k + suc n = omega arith in
      last-piece words (suc k) n ∙ ap (λ m. piece_of K b (row_at words m)) e

  length_rows : (words : List ℕ) (k n : ℕ) → length (pieces_of K b (rows_in k n words)) ≡ n
  unfolding rows_in pieces_of
  length_rows words k zero = refl
  length_rows words k (suc n) = ap suc (length_rows words (suc k) n)

  -- the first and the last row
  ends_rows : (words : List ℕ) (count : ℕ) → Each (GoodRow K b) (rows_in 0 count words)
      → ends_of (pieces_of K b (rows_in 0 count words)) ≡ ends_in count words
  unfolding rows_in pieces_of piece_of
  ends_rows words zero g = refl
  ends_rows words (suc n) g =
      let e : 0 + n ≡ n = omega arith in
      let p : suc n - 1 ≡ n = omega arith in
      let last : GoodRow K b (row_at words n) = rw e at (each_last words 0 n g) in
      let z : last_piece (piece_of K b (row_at words 0)) (pieces_of K b (rows_in 1 n words)) ≡ piece_of K b (row_at words n) = rw e at (last-piece words 0 n) in
      rw (ne_eqb (suc n) 0 (λ q. omega arith), p)
      (λ i. record {
        start = 0;
        first = (row_at words 0).tag;
        end = length_rows words 1 n i;
        last = (z i).tag;
        size = (ap (λ (c : Piece). length c.value) z ∙ sym (good_made K b (row_at words n) last).size) i;
      })

-- row by row, from the row numbered k on
judged_from : ℕ → Judged → Answer (Unit {0})
judged_from k fine = given tt
judged_from k (faulty i n t) = refused n (k + i) t
judged_from k no_version = refused 15 0 0

judged_later : (k : ℕ) (j : Judged) → judged_from k (later j) ≡ judged_from (k + 1) j
unfolding judged_from
judged_later k fine = refl
judged_later k (faulty i n t) = let e : k + suc i ≡ k + 1 + i = omega arith in ap (λ x. refused n x t) e
judged_later k no_version = refl

judged_row : (j : Judged) → by_row j ≡ judged_from 0 j
unfolding judged_from
judged_row fine = refl
judged_row (faulty i n t) = let e : i ≡ 0 + i = omega arith in ap (λ x. refused n x t) e
judged_row no_version = refl

-- what is given at the end of the stages
stages_map : {A B : Type 0} (f : A → B) (a b c : Answer (Unit {0})) (x : A)
    → map f (then a (λ _. then b (λ _. then c (λ _. given x)))) ≡ then a (λ _. then b (λ _. then c (λ _. given (f x))))
stages_map f (refused n p t) b c x = refl
stages_map f (given u) (refused n p t) c x = refl
stages_map f (given u) (given v) (refused n p t) x = refl
stages_map f (given u) (given v) (given w) x = refl

module _ (K : TagSet) (w : Words K) (b : List ℕ) where
  abbrev Good : RowWords → Type 0
  Good r = GoodRow (holds K) b r

  -- the items whose codes are limited are numbers
  limited_code : (r : RowWords) → Good r → holds K r.tag ≡ true → codes_limited r.tag ≡ true → (part_length r.part ≡ 0 → ⊥)
      → r.code ≡ value_of (piece_of (holds K) b r).value
  unfolding shape_for codes_limited is_extended
  limited_code r g k l some =
      let q = limited_number r.tag l in
      let v : List ℕ = (piece_of (holds K) b r).value in
      let made = good_made (holds K) b r g in
      rw (k, q.same) at (made.code (λ one. clash (sym (rw one at l))))
      ∙ code_seen (length v) v q.least q.most q.marked (value_of v) (λ z. some (made.size ∙ z))

  same-code : (r : RowWords) → Good r → holds K r.tag ≡ true
      → code_allowed r.tag (part_length r.part) r.code ≡ code_allowed r.tag (part_length r.part) (value_of (piece_of (holds K) b r).value)
  same-code r g k =
      let n = part_length r.part in
      by_eq n 0
      (λ z. rw z (no_code r.tag r.code ∙ sym (no_code r.tag _)))
      (λ some. by_bool (codes_limited r.tag)
      (λ l. ap (code_allowed r.tag n) (limited_code r g k l some))
      (λ l. codes_free r.tag n r.code l ∙ sym (codes_free r.tag n _ l)))

  same_fault : (seen : TagSet) (ts : List ℕ) (r : RowWords) → Good r → SeenBy seen ts
      → row_fault K seen r ≡ fault_of (holds K) (among ts) (piece_of (holds K) b r)
  unfolding row_fault fault_of piece_of
  same_fault seen ts r g s =
      by_lt r.tag 128
      (λ h. by_bool (holds K r.tag)
      (λ k. rw (k, same-code r g k, (good_made (holds K) b r g).size, s.each r.tag h))
      (λ k. rw k))
      (λ h. rw (holds_none K w r.tag h))

  by_fault : (P : Fault → Type 0) → P clean → ((n : ℕ) → P (wrong n)) → (f : Fault) → P f
  by_fault P c x clean = c
  by_fault P c x (wrong n) = x n

  judged_rows : (k : ℕ) (seen : TagSet) (ts : List ℕ) (rs : List RowWords) → Each Good rs → SeenBy seen ts
      → judged_from k (judge_from (holds K) ts (pieces_of (holds K) b rs)) ≡ rows_judged K seen k rs
  unfolding judged_from judge_from rows_judged pieces_of piece_of
  judged_rows k seen ts [] g s = rw (s.each 65 (omega arith)) (by_bool (has 65 ts) (λ f. rw f) (λ f. rw f))
  judged_rows k seen ts (r ∷ rs) g s =
      let t = r.tag in
      let rest : Judged = judge_from (holds K) (t ∷ ts) (pieces_of (holds K) b rs) in
      let next : Answer (Unit {0}) = rows_judged K (with_tag seen t) (k + 1) rs in
      let goes : Fault → Type 0 = λ f. judged_from k (on_fault f t rest) ≡ unless_faulty f k t next in
      let cleanly : goes clean = judged_later k rest ∙ judged_rows (k + 1) (with_tag seen t) (t ∷ ts) rs g.1 (one_seen seen ts t s) in
      let wrongly : (n : ℕ) → goes (wrong n) = λ n. let e : k + 0 ≡ k = omega arith in ap (λ x. refused n x t) e in
      rw (same_fault seen ts r g.0 s) (by_fault goes cleanly wrongly (fault_of (holds K) (among ts) (piece_of (holds K) b r)))

  judged_all : (rs : List RowWords) → Each Good rs → by_row (judge (holds K) (pieces_of (holds K) b rs)) ≡ rows_judged K no_tags 0 rs
  unfolding judge
  judged_all rs g = judged_row (judge (holds K) (pieces_of (holds K) b rs)) ∙ judged_rows 0 no_tags [] rs g none_seen

  module _ (words : List ℕ) (count : ℕ) where
    pub sized_all : Each Good (rows_in 0 count words)
        → map packed_of (sendable (holds K) (pieces_of (holds K) b (rows_in 0 count words))) ≡ sized_in K count words
    unfolding sendable
    sized_all g =
        let rs : List RowWords = rows_in 0 count words in
        let cs : List Piece = pieces_of (holds K) b rs in
        stages_map packed_of (right_size (length (encode cs))) (right_ends (ends_of cs)) (by_row (judge (holds K) cs)) cs
        ∙ (ap (λ z. then (right_size z.size) (λ _. then (right_ends (ends_of cs)) (λ _. then (by_row (judge (holds K) cs)) (λ _. given z))))
        (packet_size (holds K) b rs g)
        ∙ rw (ends_rows (holds K) b words count g, judged_all rs g))

    -- the whole, by what was found of the rows
    module _ (h : Option TagSet) (right : good K ≡ true) (few : count_good count (length words) ≡ true) where
      pub rows_good : right_rows (holds K) (length b) 0 (rows_in 0 count words) ≡ given tt
          → map packed_of (outgoing_with K h count words b) ≡ told_in K h count words
      rows_good e =
          rw (right, few, e) (by_bool (agrees h (present_in (rows_in 0 count words)))
          (λ a. rw a (sized_all (all_good (holds K) b 0 (rows_in 0 count words) e)))
          (λ a. rw a))

      pub rows_bad : (n p t : ℕ) → right_rows (holds K) (length b) 0 (rows_in 0 count words) ≡ refused n p t
          → map packed_of (outgoing_with K h count words b) ≡ refused n p t
      rows_bad n p t e = rw (right, few, e)

-- 16 and 1
module _ (K : TagSet) (h : Option TagSet) (count : ℕ) (words b : List ℕ) where
  pub too_many : good K ≡ true → count_good count (length words) ≡ false → map packed_of (outgoing_with K h count words b) ≡ refused 16 0 0
  too_many e f = rw (e, f)

  pub not_good : good K ≡ false → map packed_of (outgoing_with K h count words b) ≡ refused 1 0 0
  not_good e = rw e
