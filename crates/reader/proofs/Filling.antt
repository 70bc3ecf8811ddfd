-- What a walk that fills a table keeps: the items that are left, and the table that they will make.
-- Assumes nothing.
use Prim.Native.Nat.{ℕ, suc, ◌+◌, ◌-◌, ◌*◌, ◌<◌, ◌≤◌}
use native.Mathlib.Omega.{arith}
use mathlib.Core.Path.{◌≡◌, refl, ap, sym, ◌∙◌}
use mathlib.Core.Bool.{Bool, true}
use mathlib.Core.List.{List, [], ◌∷◌}
use lib.ListN.{length, replicate}
use lib.Seq.{sets}
use lib.Dec.{leb}
use borrow.Author.Tests.{leb-true}
use Rattle.base.proofs.Cases.{by_bool, by_lt}
use Rattle.base.proofs.Every.{both_left, both_right}
use Rattle.refusal.specs.Answer.{Answer, given, refused}
use Rattle.number.specs.Stored.{Bytes}
use Rattle.tagset.specs.Sets.{holds}
use Rattle.tagset.specs.declared.TagSet.{TagSet}
use Rattle.catalogue.specs.Shapes.{shape_of, size_allowed, right_length}
use Rattle.catalogue.specs.declared.Shape.{Shape}
use Rattle.catalogue.specs.declared.Shape.TheVariants.{Text, Number, Absent}
use Rattle.catalogue.proofs.Columns.{number_ranged, right_some}
use Rattle.packet.specs.Pieces.{Item}
use Rattle.packet.specs.code.Headers.{item_by}
use Rattle.packet.specs.Said.{header_at}
use Rattle.packet.specs.Rows.{shape_for, row_of, rows_of, words, table_of}
use Rattle.packet.specs.declared.Header.{Header}
use Rattle.packet.proofs.Ahead.{Ahead, no_more, not_refused, next}
use Rattle.packet.proofs.Accepting.{Accepting, accepting, AllFit, one_fits, fine_fit, walk_few}
use Rattle.packet.proofs.Walks.{Lies, header_lies}
use Rattle.packet.specs.Judge.{judge}
use Rattle.reader.specs.code.Filling.{ItemAt, put_row, Narrow, AcceptsFrom, or_none, items_of}
use Rattle.reader.proofs.Laws.{row_more, value_length, filled}
use borrow.Rule.Slice.PartMut.{mid_of, put_mid}

-- an allowed length of a number lies within its mask
narrow_shape : (t n : ℕ) (s : Shape) → shape_of t ≡ s → size_allowed t s n ≡ true → Narrow s n
narrow_shape t n Text e a = tt
narrow_shape t n (Number l m k) e a =
    let r = number_ranged t l m k e in
    record {
      mask = r.mask;
      fits = λ some.
          let b = right_some t n (Number l m k) a some in
          let low : l ≤ n = leb-true l n (both_left (leb l n) _ b) in
          let high : n ≤ m = leb-true n m (both_right (leb l n) _ b) in
          record { few = omega (arith, r.few); within = r.within n low high; one = λ x. omega (arith, r.one x) };
    }
narrow_shape t n Absent e a = tt

narrow_known : (K : ℕ → Bool) (t n : ℕ) → (K t ≡ true → size_allowed t (shape_of t) n ≡ true) → Narrow (shape_for K t) n
unfolding shape_for
narrow_known K t n a = by_bool (K t) (λ e. rw e (narrow_shape t n (shape_of t) refl (a e))) (λ e. rw e tt)

first_fits : {K : ℕ → Bool} {i : Item} {is : List Item} → AllFit K (i ∷ is) → K i.piece.tag ≡ true
    → size_allowed i.piece.tag (shape_of i.piece.tag) (length i.piece.value) ≡ true
unfolding right_length
first_fits (one_fits a f) k = (a k).size

rest_fits : {K : ℕ → Bool} {i : Item} {is : List Item} → AllFit K (i ∷ is) → AllFit K is
rest_fits (one_fits a f) = f

-- n rows of so many are stored in t, and the items ahead make it x
pub record Left (K : TagSet) (p : List ℕ) (count here n : ℕ) (t x : List ℕ) : Type 0 where
  pub ahead : Ahead p here
  pub past : 16 ≤ here
  pub fits : AllFit (holds K) ahead.items
  pub counted : n + length ahead.items ≡ count
  pub stored : sets t (4 * n) (words (rows_of (holds K) ahead.items)) ≡ x

-- all of an accepted packet's
module _ {K : TagSet} {p : List ℕ} (by : Bytes p) {from count : ℕ} (a : AcceptsFrom K p from count) where
  is_accepted : Accepting K p a.begins.items
  is_accepted = accepting K p a.begins.items by a.accepted

  pub short : length p ≤ 8192
  short = is_accepted.short

  pub few : count ≤ 128
  few = omega (arith, a.counted, walk_few 128 _ _ a.begins.items a.begins.walked)

  all_fit : AllFit (holds K) a.begins.items
  unfolding judge
  all_fit = fine_fit (holds K) [] a.begins.items is_accepted.clean

  pub table_filled : (t : List ℕ) {t' zs : List ℕ} → 512 ≤ length t → t' ≡ sets t 0 (words (rows_of (holds K) (items_of K p)))
      → zs ≡ replicate (length (mid_of (4 * count) (512 - 4 * count) t')) 0 → put_mid (4 * count) (512 - 4 * count) t' zs ≡ table_of (holds K) (items_of K p) t
  table_filled t room e z =
      filled (holds K) (items_of K p) t (a.counted ∙ ap (λ r. length (or_none r)) (sym a.accepted)) few room e z

  pub all_left : (t : List ℕ) → Left K p count from 0 t (sets t 0 (words (rows_of (holds K) (items_of K p))))
  all_left t = record {
    ahead = record { most = 128; items = a.begins.items; walks = a.begins.walked };
    past = a.past;
    fits = all_fit;
    counted = omega (arith, a.counted);
    stored = ap (λ r. sets t 0 (words (rows_of (holds K) (or_none r)))) (sym a.accepted);
  }

no_items : (is : List Item) → length is ≡ 0 → is ≡ []
no_items [] e = refl
no_items (i ∷ is) e = absurd (omega arith)

module _ {K : TagSet} {p : List ℕ} {count here n : ℕ} {t x : List ℕ} (l : Left K p count here n t x) where
  pub none_left : count ≤ n → t ≡ x
  unfolding rows_of words
  none_left h = rw (no_items l.ahead.items (omega (arith, l.counted))) at l.stored

  module _ (h : n < count) where
    more : here < length p
    more =
        by_lt here (length p) (λ k. k)
        (λ k. let none : length l.ahead.items ≡ 0 = ap length (no_more p here l.ahead k) in absurd (omega (arith, l.counted)))

    pub item_there : ItemAt p here
    item_there = go (header_at p here) refl
      where
        go : (a : Answer Header) → header_at p here ≡ a → ItemAt p here
        go (given i) e = record { header = i; found = e }
        go (refused r a g) e = not_refused p here l.ahead more r a g e

    -- the next item
    pub record Next (i : Header) : Type 0 where
      pub inside : i.place + i.size ≤ length p
      pub behind : 8 ≤ i.place + i.size
      pub narrow : Narrow (shape_for (holds K) i.tag) i.size
      pub left : {t' : List ℕ} → t' ≡ put_row t n (row_of (holds K) (item_by p i)) → Left K p count (i.place + i.size) (n + 1) t' x

    pub next_item : Bytes p → {i : Header} → header_at p here ≡ given i → Next i
    next_item by {i} e =
        let a = next p here l.ahead more i e in
        let lies : Lies p here i = header_lies p here by i e in
        let size = value_length p by i lies.inside in
        let fits : AllFit (holds K) (item_by p i ∷ a.ahead.items) = rw a.items at l.fits in
        let counted : n + suc (length a.ahead.items) ≡ count = rw a.items at l.counted in
        let stored : sets t (4 * n) (words (rows_of (holds K) (item_by p i ∷ a.ahead.items))) ≡ x = rw a.items at l.stored in
        record {
          inside = lies.inside;
          behind = omega (arith, l.past);
          narrow = narrow_known (holds K) i.tag i.size (λ y. ap (size_allowed i.tag (shape_of i.tag)) (sym size) ∙ first_fits fits y);
          left = λ st. record {
            ahead = a.ahead;
            past = omega (arith, l.past);
            fits = rest_fits fits;
            counted = omega (arith, counted);
            stored = rw st (row_more (holds K) t n (item_by p i) a.ahead.items ∙ stored);
          };
        }
