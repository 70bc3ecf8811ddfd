-- The words of rows that are not bad and of which no known tag stands twice: they answer as a scan of the rows does, and have as many
-- bits as rows are not carried, or are withdrawn. So it is with the rows of an accepted packet.
-- Assumes nothing.
use Prim.Native.Nat.{ℕ, suc, ◌<◌, suc-le-suc}
use native.Mathlib.Omega.{arith}
use mathlib.Core.Path.{◌≡◌, refl}
use mathlib.Core.Bool.{Bool, true, false, not, ◌&&◌}
use mathlib.Core.List.{List, [], ◌∷◌}
use lib.ListN.{length}
use borrow.Author.Tests.{ne_eqb}
use Rattle.base.specs.Every.{Each}
use Rattle.base.proofs.Cases.{by_bool, by_eq}
use Rattle.refusal.specs.Answer.{given}
use Rattle.number.specs.Stored.{Bytes}
use Rattle.tagset.specs.Sets.{no_tags, holds, size}
use Rattle.rows.specs.declared.RowWords.{RowWords}
use Rattle.rows.specs.Taken.{GoodRow}
use Rattle.rows.specs.Present.{is_present, is_withdrawn, has_value, words_from, present_in, withdrawn_in, scanned, rows_with}
use Rattle.rows.proofs.Present.{Listed, none_listed, one_listed, Single, none_single, one_single, words_scan, words_count}
use Rattle.rows.proofs.Present.{present_known, present_below, withdrawn_present, single_valued}
use Rattle.packet.specs.Pieces.{Piece, Item}
use Rattle.packet.specs.Judge.{Knowing, fine, judge}
use Rattle.packet.specs.Verdict.{verdict}
use Rattle.packet.specs.Allowed.{piece_at}
use Rattle.packet.specs.Rows.{rows_of, piece_of, pieces_of}
use Rattle.laws.proofs.Clean.{fine_clean}
use Rattle.laws.proofs.Accepted.{accepts}
use Rattle.laws.proofs.Rows.{rows_good}
use Rattle.laws.proofs.Sent.{rows_pieces}

-- for rows of a sort of which none is carried
module _ (sort : RowWords → Bool) (narrow : (r : RowWords) → sort r ≡ true → is_present r ≡ true) (K : Knowing) (b : List ℕ) where
  rows_listed : (rs : List RowWords) → Each (GoodRow K b) rs → Listed sort rs
  rows_listed [] g = none_listed
  rows_listed (r ∷ rs) g = one_listed (λ s. present_below K b r g.0 (narrow r s)) (rows_listed rs g.1)

  -- no known piece has the tag: no row of it is found
  not_scanned : (t : ℕ) (rs : List RowWords) → Each (GoodRow K b) rs
      → ((k : ℕ) → k < length (pieces_of K b rs) → K (piece_at (pieces_of K b rs) k).tag ≡ true → t ≡ (piece_at (pieces_of K b rs) k).tag → ⊥)
      → scanned sort t rs ≡ false
  unfolding scanned pieces_of piece_of
  not_scanned t [] g none = refl
  not_scanned t (r ∷ rs) g none =
      let rest : scanned sort t rs ≡ false = not_scanned t rs g.1 (λ k h. none (suc k) (suc-le-suc h)) in
      by_bool (sort r)
      (λ p. by_eq t r.tag
      (λ e. absurd (none 0 (omega arith) (present_known K b r g.0 (narrow r p)) e))
      (λ n. rw (p, ne_eqb t r.tag n) rest))
      (λ p. rw p rest)

  -- "known tag a second time"
  abbrev Once : List Piece → Type 0
  Once cs = (j k : ℕ) → j < k → k < length cs → K (piece_at cs k).tag ≡ true → (piece_at cs j).tag ≡ (piece_at cs k).tag → ⊥

  rows_single : (rs : List RowWords) → Each (GoodRow K b) rs → Once (pieces_of K b rs) → Single sort rs
  unfolding pieces_of piece_of
  rows_single [] g once = none_single
  rows_single (r ∷ rs) g once =
      one_single (λ _. not_scanned r.tag rs g.1 (λ k h. once 0 (suc k) (omega arith) (suc-le-suc h)))
      (rows_single rs g.1 (λ j k p h. once (suc j) (suc k) (suc-le-suc p) (suc-le-suc h)))

  module _ (rs : List RowWords) (g : Each (GoodRow K b) rs) where
    pub sort_scanned : (t : ℕ) → holds (words_from sort no_tags rs) t ≡ scanned sort t rs
    sort_scanned t = words_scan sort t rs (rows_listed rs g)

    pub sort_counted : judge K (pieces_of K b rs) ≡ fine → size (words_from sort no_tags rs) ≡ rows_with sort rs
    sort_counted e = words_count sort rs (rows_listed rs g) (rows_single rs g (fine_clean K (pieces_of K b rs) e).once)

module _ (K : Knowing) (b : List ℕ) (rs : List RowWords) (g : Each (GoodRow K b) rs) where
  -- "The answer must equal that of a scan of all rows, for each of the tags"
  pub rows_scanned : (t : ℕ) → holds (present_in rs) t ≡ scanned is_present t rs
  unfolding present_in
  rows_scanned = sort_scanned is_present (λ r e. e) K b rs g

  pub withdrawn_scanned : (t : ℕ) → holds (withdrawn_in rs) t ≡ scanned is_withdrawn t rs
  unfolding withdrawn_in
  withdrawn_scanned = sort_scanned is_withdrawn withdrawn_present K b rs g

  -- "the number of set bits must equal the number of rows that aren't carried"
  module _ (e : judge K (pieces_of K b rs) ≡ fine) where
    pub rows_counted : size (present_in rs) ≡ rows_with is_present rs
    unfolding present_in
    rows_counted = sort_counted is_present (λ r e. e) K b rs g e

    pub withdrawn_counted : size (withdrawn_in rs) ≡ rows_with is_withdrawn rs
    unfolding withdrawn_in
    withdrawn_counted = sort_counted is_withdrawn withdrawn_present K b rs g e

-- of an accepted packet
module _ (K : Knowing) (p : List ℕ) (is : List Item) (by : Bytes p) (e : verdict K p ≡ given is) where
  good_rows : Each (GoodRow K p) (rows_of K is)
  good_rows = rows_good K p is by e

  judged_fine : judge K (pieces_of K p (rows_of K is)) ≡ fine
  judged_fine = rw (rows_pieces K p is by e) (accepts K p is e).faultless

  pub accepted_scanned : (t : ℕ) → holds (present_in (rows_of K is)) t ≡ scanned is_present t (rows_of K is)
  accepted_scanned = rows_scanned K p (rows_of K is) good_rows

  pub accepted_withdrawn : (t : ℕ) → holds (withdrawn_in (rows_of K is)) t ≡ scanned is_withdrawn t (rows_of K is)
  accepted_withdrawn = withdrawn_scanned K p (rows_of K is) good_rows

  pub accepted_counted : size (present_in (rows_of K is)) ≡ rows_with is_present (rows_of K is)
  accepted_counted = rows_counted K p (rows_of K is) good_rows judged_fine

  pub accepted_withdrawn_counted : size (withdrawn_in (rows_of K is)) ≡ rows_with is_withdrawn (rows_of K is)
  accepted_withdrawn_counted = withdrawn_counted K p (rows_of K is) good_rows judged_fine

  -- a tag that is there and not withdrawn has a row with a value, and only such a one
  pub accepted_valued : (t : ℕ) → holds (present_in (rows_of K is)) t && not (holds (withdrawn_in (rows_of K is)) t) ≡ scanned has_value t (rows_of K is)
  accepted_valued t =
      rw (accepted_scanned t, accepted_withdrawn t)
      (single_valued t (rows_of K is) (rows_single is_present (λ r e. e) K p (rows_of K is) good_rows (fine_clean K _ judged_fine).once))
