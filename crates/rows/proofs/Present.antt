-- Two words beside a list of rows, for those of some sort: they answer as a scan does, and have as many bits as there are such rows.
-- Assumes nothing.
use Prim.Native.Nat.{ℕ, ◌+◌, ◌<◌}
use native.Mathlib.Omega.{arith}
use native.Mathlib.Nat.{zero-add}
use mathlib.Core.Path.{◌≡◌, refl, ap, sym, ◌∙◌}
use mathlib.Core.Bool.{Bool, true, false, not, ◌&&◌, ◌||◌, and-false, or-true, or-false, or_assoc}
use mathlib.Core.List.{List, [], ◌∷◌}
use lib.Dec.{eqb}
use lib.ListN.{length}
use borrow.Author.Tests.{eqb-true, eq-eqb, ne_eqb}
use Rattle.base.proofs.Cases.{by_bool, by_lt, by_eq, clash}
use Rattle.base.proofs.Every.{both_left, both_right}
use Rattle.tagset.specs.Sets.{no_tags, holds, with_tag, size}
use Rattle.tagset.specs.declared.TagSet.{TagSet}
use Rattle.tagset.proofs.Laws.{Words, with_words, with_it, with_other, no_words, no-tags}
use Rattle.tagset.proofs.Counting.{with_new, size_none}
use Rattle.knowing.proofs.Laws.{Good, known_there}
use Rattle.catalogue.specs.Shapes.{shape_of, is_listed, is_empty}
use Rattle.catalogue.proofs.Laws.{item_beyond}
use Rattle.catalogue.proofs.Columns.{neither, listed}
use Rattle.catalogue.specs.declared.Shape.{Shape}
use Rattle.catalogue.specs.declared.Shape.TheVariants.{Text, Number, Absent}
use Rattle.rows.specs.Meaning.{mark_code, carried_kind, withdrawn_kind, kind_of, kind_for, value_as, seen_as, shape_for}
use Rattle.rows.specs.Taken.{tag_good, part_length, row_good, GoodRow}
use Rattle.rows.specs.Present.{is_present, is_withdrawn, has_value, with_row, words_from, scanned, rows_with}
use Rattle.rows.specs.declared.RowWords.{RowWords}

-- rows that a receiver makes: one of the sort has a tag below 128
pub data Listed (sort : RowWords → Bool) : List RowWords → Type 0 where
  none_listed : Listed sort []
  one_listed : {r : RowWords} {rs : List RowWords} → (sort r ≡ true → r.tag < 128) → Listed sort rs → Listed sort (r ∷ rs)

-- "known tag a second time": of the rows of the sort, no two have one tag
pub data Single (sort : RowWords → Bool) : List RowWords → Type 0 where
  none_single : Single sort []
  one_single : {r : RowWords} {rs : List RowWords} → (sort r ≡ true → scanned sort r.tag rs ≡ false) → Single sort rs → Single sort (r ∷ rs)

module _ (sort : RowWords → Bool) where
  module _ (s : TagSet) (w : Words s) (r : RowWords) where
    pub row_words : Words (with_row sort s r)
    row_words = by_bool (sort r) (λ e. rw e (with_words s w r.tag)) (λ e. rw e w)

    row_holds : (sort r ≡ true → r.tag < 128) → (t : ℕ) → holds (with_row sort s r) t ≡ (holds s t || (sort r && eqb t r.tag))
    row_holds listed t =
        by_bool (sort r)
        (λ e. rw e (by_eq t r.tag
        (λ q. rw (eq-eqb t r.tag q) (ap (holds (with_tag s r.tag)) q ∙ (with_it s w r.tag (listed e) ∙ sym (or-true (holds s t)))))
        (λ q. rw (ne_eqb t r.tag q) (with_other s w r.tag t q ∙ sym (or-false (holds s t))))))
        (λ e. rw e (sym (or-false (holds s t))))

  -- the words answer as a scan does, for every tag
  module _ (t : ℕ) where
    from_scan : (s : TagSet) → Words s → (rs : List RowWords) → Listed sort rs → holds (words_from sort s rs) t ≡ (holds s t || scanned sort t rs)
    unfolding words_from scanned
    from_scan s w [] l = sym (or-false (holds s t))
    from_scan s w (r ∷ rs) (one_listed h l) =
        from_scan (with_row sort s r) (row_words s w r) rs l
        ∙ (ap (λ b. b || scanned sort t rs) (row_holds s w r h t) ∙ or_assoc (holds s t) (sort r && eqb t r.tag) (scanned sort t rs))

    pub words_scan : (rs : List RowWords) → Listed sort rs → holds (words_from sort no_tags rs) t ≡ scanned sort t rs
    words_scan rs l = from_scan no_tags no_words rs l ∙ ap (λ b. b || scanned sort t rs) (no-tags t)

  pub from_words : (s : TagSet) → Words s → (rs : List RowWords) → Words (words_from sort s rs)
  unfolding words_from
  from_words s w [] = w
  from_words s w (r ∷ rs) = from_words (with_row sort s r) (row_words s w r) rs

  -- as many bits as rows of the sort
  Fresh : TagSet → List RowWords → Type 0
  Fresh s rs = (t : ℕ) → scanned sort t rs ≡ true → holds s t ≡ false

  fresh_rest : (s : TagSet) → Words s → (r : RowWords) (rs : List RowWords) → (sort r ≡ true → r.tag < 128)
      → (sort r ≡ true → scanned sort r.tag rs ≡ false) → Fresh s (r ∷ rs) → Fresh (with_row sort s r) rs
  unfolding Fresh scanned
  fresh_rest s w r rs h single f t e =
      let old : holds s t ≡ false = f t (rw e (or-true (sort r && eqb t r.tag))) in
      row_holds s w r h t ∙ rw old (by_bool (sort r)
      (λ p. rw p (by_eq t r.tag (λ q. clash (sym e ∙ (ap (λ u. scanned sort u rs) q ∙ single p))) (λ q. ne_eqb t r.tag q)))
      (λ p. rw p))

  from_count : (s : TagSet) → Words s → (rs : List RowWords) → Listed sort rs → Single sort rs → Fresh s rs
      → size (words_from sort s rs) ≡ size s + rows_with sort rs
  unfolding words_from rows_with Fresh scanned
  from_count s w [] l o f = omega arith
  from_count s w (r ∷ rs) (one_listed h l) (one_single single o) f =
      from_count (with_row sort s r) (row_words s w r) rs l o (fresh_rest s w r rs h single f)
      ∙ by_bool (sort r)
      (λ p. rw (p, with_new s w r.tag (h p) (f r.tag (rw (p, eq-eqb r.tag r.tag refl)))) (omega arith))
      (λ p. rw p (omega arith))

  pub words_count : (rs : List RowWords) → Listed sort rs → Single sort rs → size (words_from sort no_tags rs) ≡ rows_with sort rs
  unfolding Fresh
  words_count rs l o = from_count no_tags no_words rs l o (λ t _. no-tags t) ∙ rw size_none (zero-add (rows_with sort rs))

-- a kind is not carried where a shape is given
valued_listed : {A : Type 0} (shape : Shape) (code n : ℕ) (a : A) → not (eqb (kind_of (value_as shape code n a)) carried_kind) ≡ is_listed shape
valued_listed Text code n a = refl
valued_listed (Number least most marked) code n a = by_bool (marked && eqb code (mark_code most)) (λ e. rw e) (λ e. rw e)
valued_listed Absent code n a = refl

pub kind_listed : {A : Type 0} (shape : Shape) (code n : ℕ) (a : A) → not (eqb (kind_of (seen_as shape code n a)) carried_kind) ≡ is_listed shape
kind_listed shape code n a =
    by_bool (is_empty shape n)
    (λ e. rw e (sym (both_left (is_listed shape) _ e)))
    (λ e. rw e (valued_listed shape code n a))

-- and is withdrawn where there are no bytes besides
valued_not : {A : Type 0} (shape : Shape) (code n : ℕ) (a : A) → eqb (kind_of (value_as shape code n a)) withdrawn_kind ≡ false
valued_not Text code n a = refl
valued_not (Number least most marked) code n a = by_bool (marked && eqb code (mark_code most)) (λ e. rw e) (λ e. rw e)
valued_not Absent code n a = refl

pub kind_withdrawn : {A : Type 0} (shape : Shape) (code n : ℕ) (a : A) → eqb (kind_of (seen_as shape code n a)) withdrawn_kind ≡ is_empty shape n
kind_withdrawn shape code n a = by_bool (is_empty shape n) (λ e. rw e) (λ e. rw e (valued_not shape code n a))

-- so a row that is withdrawn is not carried
pub withdrawn_present : (r : RowWords) → is_withdrawn r ≡ true → is_present r ≡ true
withdrawn_present r e = rw (eqb-true r.kind withdrawn_kind e)

-- what a scan finds of a narrower sort, one of a wider sort finds
narrower : (sort wide : RowWords → Bool) → ((r : RowWords) → sort r ≡ true → wide r ≡ true) → (t : ℕ) (rs : List RowWords)
    → scanned wide t rs ≡ false → scanned sort t rs ≡ false
unfolding scanned
narrower sort wide narrow t [] none = refl
narrower sort wide narrow t (r ∷ rs) none =
    let a = neither (wide r && eqb t r.tag) (scanned wide t rs) none in
    let rest = narrower sort wide narrow t rs a.1 in
    by_bool (sort r) (λ s. rw (s, rw (narrow r s) at a.0) rest) (λ s. rw s rest)

-- of rows of which no two that are not carried have one tag, those with a value are found where one is there that is not withdrawn
pub single_valued : (t : ℕ) (rs : List RowWords) → Single is_present rs
    → scanned is_present t rs && not (scanned is_withdrawn t rs) ≡ scanned has_value t rs
unfolding scanned
single_valued t [] o = refl
single_valued t (r ∷ rs) (one_single single o) =
    by_bool (is_present r && eqb t r.tag)
    (λ e.
    let p = both_left (is_present r) _ e in
    let q : t ≡ r.tag = eqb-true t r.tag (both_right (is_present r) _ e) in
    let none : scanned is_present t rs ≡ false = ap (λ u. scanned is_present u rs) q ∙ single p in
    rw (
      p,
      eq-eqb t r.tag q,
      narrower is_withdrawn is_present withdrawn_present t rs none,
      narrower has_value is_present (λ s. both_left (is_present s) (not (is_withdrawn s))) t rs none,
    )
    (by_bool (is_withdrawn r) (λ w. rw w) (λ w. rw w)))
    (λ e. by_bool (is_present r)
    (λ p. rw (p, rw p at e, and-false (is_withdrawn r), and-false (not (is_withdrawn r))) (single_valued t rs o))
    (λ p.
    let w : is_withdrawn r ≡ false = by_bool (is_withdrawn r) (λ b. clash (sym (withdrawn_present r b) ∙ p)) (λ b. b) in
    rw (p, w) (single_valued t rs o)))

-- so of a row that is not bad
pub good_listed : (s : Shape) (room : ℕ) (r : RowWords) → row_good s room r ≡ true → is_present r ≡ is_listed s
unfolding row_good
good_listed s room r e =
    let n = part_length r.part in
    let said = kind_for s r.code n in
    rw (eqb-true r.kind said (both_left (eqb r.kind said) _ (both_right (tag_good r.tag) _ e))) (kind_listed s r.code n tt)

-- one that is not carried has a known tag, and one below 128
module _ (K : ℕ → Bool) (b : List ℕ) (r : RowWords) (g : GoodRow K b r) (p : is_present r ≡ true) where
  has_shape : is_listed (shape_for K r.tag) ≡ true
  has_shape = sym (good_listed (shape_for K r.tag) (length b) r g) ∙ p

  pub present_known : K r.tag ≡ true
  unfolding shape_for
  present_known = by_bool (K r.tag) (λ k. k) (λ k. clash (sym (rw k at has_shape)))

  pub present_below : r.tag < 128
  unfolding shape_for shape_of
  present_below =
      by_lt r.tag 128 (λ h. h)
      (λ h. clash (sym (rw (present_known, item_beyond r.tag h) at has_shape)))

-- a receiver gives a shape to the tags that it knows
pub known_listed : (K : TagSet) → Good K → (t : ℕ) → is_listed (shape_for (holds K) t) ≡ holds K t
unfolding shape_for
known_listed K good t = by_bool (holds K t) (λ b. rw b (listed (shape_of t) (known_there K good t b))) (λ b. rw b)
