-- The two words beside the rows of a packet: what a scan of the rows finds, and the words of two receivers.
-- Assumes nothing.
use Prim.Native.Nat.{ℕ}
use mathlib.Core.Path.{◌≡◌, refl, ap, ap₂, sym, ◌∙◌}
use mathlib.Core.Bool.{Bool, true, false, cond, ◌&&◌, ◌||◌, and-true, and-false}
use mathlib.Core.List.{List, [], ◌∷◌}
use lib.Dec.{eqb}
use lib.ListN.{length}
use borrow.Author.Tests.{eq-eqb, ne_eqb}
use Rattle.base.proofs.Cases.{by_bool, by_eq}
use Rattle.base.proofs.Every.{both_left}
use Rattle.tagset.specs.Sets.{no_tags, holds, with_tag, meet}
use Rattle.tagset.specs.declared.TagSet.{TagSet}
use Rattle.tagset.proofs.Laws.{Words, no_words, Included, meet_words, meet_holds, same_tags}
use Rattle.knowing.proofs.Laws.{Good, known_below}
use Rattle.rows.specs.Present.{is_present, is_withdrawn, with_row, words_from, present_in, withdrawn_in, scanned}
use Rattle.rows.specs.declared.RowWords.{RowWords}
use Rattle.rows.proofs.Present.{Listed, none_listed, one_listed, words_scan, from_words}
use Rattle.packet.specs.Pieces.{Item}
use Rattle.packet.specs.Rows.{row_of, rows_of, SameTable, no_rows, one_more}
use Rattle.packet.proofs.Present.{row_present, row_withdrawn}

-- rows with the same tags and kinds have the same words, for a sort that goes by the kind
module _ (sort : RowWords → Bool) (goes : (r s : RowWords) → r.kind ≡ s.kind → sort r ≡ sort s) (b c : List ℕ) where
  same_from : (a : TagSet) {rs ss : List RowWords} → SameTable b c rs ss → words_from sort a rs ≡ words_from sort a ss
  unfolding words_from
  same_from a no_rows = refl
  same_from a (one_more {r} {s} {rs} one more) =
      ap (λ x. words_from sort x rs) (ap₂ (λ b t. cond b (with_tag a t) a) (goes r s one.kind) one.tag) ∙ same_from (with_row sort a s) more

module _ (b c : List ℕ) {rs ss : List RowWords} (t : SameTable b c rs ss) where
  pub same_present : present_in rs ≡ present_in ss
  unfolding present_in
  same_present = same_from is_present (λ r s e. rw e) b c no_tags t

  pub same_withdrawn : withdrawn_in rs ≡ withdrawn_in ss
  unfolding withdrawn_in
  same_withdrawn = same_from is_withdrawn (λ r s e. rw e) b c no_tags t

-- what a receiver's rows of a sort say of the items: that their tags are known, and something besides
module _ (sort : RowWords → Bool) (besides : Item → Bool)
    (said : (K : TagSet) → Good K → (i : Item) → sort (row_of (holds K) i) ≡ (holds K i.piece.tag && besides i)) where
  -- whether such an item has a tag
  abbrev there : ℕ → List Item → Bool
  there t [] = false
  there t (i ∷ is) = (eqb t i.piece.tag && besides i) || there t is

  module _ (K : TagSet) (w : Words K) (g : Good K) where
    rows_listed : (is : List Item) → Listed sort (rows_of (holds K) is)
    unfolding rows_of row_of
    rows_listed [] = none_listed
    rows_listed (i ∷ is) =
        one_listed (λ e. known_below K w i.piece.tag (both_left (holds K i.piece.tag) (besides i) (sym (said K g i) ∙ e))) (rows_listed is)

    -- a scan finds the known tags that are there
    rows_scan : (t : ℕ) (is : List Item) → scanned sort t (rows_of (holds K) is) ≡ holds K t && there t is
    unfolding rows_of scanned row_of
    rows_scan t [] = sym (and-false (holds K t))
    rows_scan t (i ∷ is) =
        rw (said K g i, rows_scan t is) (by_eq t i.piece.tag
        (λ q. rw (eq-eqb t i.piece.tag q, ap (holds K) q) (by_bool (holds K i.piece.tag)
        (λ e. rw e (ap (λ b. b || there t is) (and-true (besides i))))
        (λ e. rw e)))
        (λ q. rw (ne_eqb t i.piece.tag q, and-false (holds K i.piece.tag && besides i))))

    rows_words : (is : List Item) → Words (words_from sort no_tags (rows_of (holds K) is))
    rows_words is = from_words sort no_tags no_words (rows_of (holds K) is)

    words_held : (t : ℕ) (is : List Item) → holds (words_from sort no_tags (rows_of (holds K) is)) t ≡ holds K t && there t is
    words_held t is = words_scan sort t _ (rows_listed is) ∙ rows_scan t is

  -- a poorer receiver's words are the fuller's within its knowing set
  smaller : (K K' : TagSet) (w : Words K) (w' : Words K') (g : Good K) (g' : Good K') → Included K K' → (is : List Item)
      → words_from sort no_tags (rows_of (holds K) is) ≡ meet (words_from sort no_tags (rows_of (holds K') is)) K
  smaller K K' w w' g g' within is =
      let s' = words_from sort no_tags (rows_of (holds K') is) in
      let v' = rows_words K' w' g' is in
      same_tags _ (meet s' K) (rows_words K w g is) (meet_words s' K v' w)
      (λ t. words_held K w g t is ∙ sym (meet_holds s' K v' w t ∙ rw (words_held K' w' g' t is) (by_bool (holds K t)
      (λ k. rw (k, within.each t k) (and-true (there t is)))
      (λ k. rw k (and-false (holds K' t && there t is))))))

-- "the same answer for every item it knows"
module _ (K K' : TagSet) (w : Words K) (w' : Words K') (g : Good K) (g' : Good K') (within : Included K K') (is : List Item) where
  pub smaller_present : present_in (rows_of (holds K) is) ≡ meet (present_in (rows_of (holds K') is)) K
  unfolding present_in
  smaller_present = smaller is_present (λ _. true) (λ J h i. row_present J h i ∙ sym (and-true _)) K K' w w' g g' within is

  pub smaller_withdrawn : withdrawn_in (rows_of (holds K) is) ≡ meet (withdrawn_in (rows_of (holds K') is)) K
  unfolding withdrawn_in
  smaller_withdrawn = smaller is_withdrawn (λ i. eqb (length i.piece.value) 0) row_withdrawn K K' w w' g g' within is
