-- Runs of stores, and the row of an item as the code makes it.
-- Assumes nothing.
use Prim.Native.Nat.{ℕ, suc, ◌+◌, ◌-◌, ◌*◌, ◌<◌, ◌≤◌}
use native.Mathlib.Omega.{arith}
use native.Mathlib.Nat.{add-zero}
use mathlib.Core.Path.{◌≡◌, refl, ap, sym, ◌∙◌}
use mathlib.Core.Bool.{Bool, true, false}
use mathlib.Core.List.{List, [], ◌∷◌, ◌++◌, append_assoc}
use lib.ListN.{length, get_or, set, take, drop, replicate, length-append, length-replicate, length-take, length-drop}
use lib.Seq.{sets, sets-eq, length-sets, drop-drop, length-take-le}
use borrow.Rule.Slice.PartMut.{mid_of, put_mid}
use Rattle.base.proofs.Cases.{by_lt, clash}
use Rattle.number.specs.Stored.{Bytes}
use Rattle.tagset.specs.Sets.{holds}
use Rattle.tagset.specs.declared.TagSet.{TagSet}
use Rattle.tagset.proofs.Laws.{Words, holds_none}
use Rattle.catalogue.specs.code.Column.{shape_column, shape_byte}
use Rattle.catalogue.proofs.Columns.{byte_in_column}
use Rattle.packet.specs.Pieces.{Item}
use Rattle.packet.specs.Rows.{RowWords, shape_for, row_of, rows_of, words, table_of}
use Rattle.packet.specs.declared.Header.{Header}
use Rattle.reader.specs.code.Filling.{put_row}

-- the four stores of a row
pub row_stored : (t : List ℕ) (n : ℕ) (r : RowWords)
    → set (set (set (set t (4 * n) r.tag) (4 * n + 1) r.kind) (4 * n + 2) r.code) (4 * n + 3) r.part ≡ put_row t n r
row_stored t n r =
    let w : ℕ = 4 * n in
    let e1 : w + 1 ≡ suc w = omega arith in
    let e2 : w + 2 ≡ suc (suc w) = omega arith in
    let e3 : w + 3 ≡ suc (suc (suc w)) = omega arith in
    rw (e1, e2, e3)

-- a part of the table lent and filled with other words
part_set : (t : List ℕ) (at n : ℕ) (ws : List ℕ) → at + n ≤ length t → length ws ≡ n → put_mid at n t ws ≡ sets t at ws
part_set t at n ws h e = rw (drop-drop n at t, sets-eq ws t at (omega arith), e, append_assoc)

-- with zeros
zeros_set : (t : List ℕ) (at end : ℕ) (ws : List ℕ) → at ≤ end → end ≤ length t → ws ≡ replicate (length (mid_of at (end - at) t)) 0
    → put_mid at (end - at) t ws ≡ sets t at (replicate (end - at) 0)
zeros_set t at end ws h k e =
    let size : length (mid_of at (end - at) t) ≡ end - at = length-take-le (end - at) (drop at t) (rw length-drop (omega arith)) in
    let zeros : ws ≡ replicate (end - at) 0 = rw size at e in
    rw zeros (part_set t at (end - at) (replicate (end - at) 0) (omega arith) (length-replicate (end - at) 0))

-- a row, then those of the rest
pub row_more : (K : ℕ → Bool) (t : List ℕ) (n : ℕ) (i : Item) (is : List Item)
    → sets (put_row t n (row_of K i)) (4 * (n + 1)) (words (rows_of K is)) ≡ sets t (4 * n) (words (rows_of K (i ∷ is)))
unfolding rows_of words
row_more K t n i is =
    let e : 4 * (n + 1) ≡ suc (suc (suc (suc (4 * n)))) = omega arith in
    rw e

pub words_length : (K : ℕ → Bool) (is : List Item) → length (words (rows_of K is)) ≡ 4 * length is
unfolding rows_of words
words_length K [] = refl
words_length K (i ∷ is) = omega (arith, words_length K is)

sets_append : (xs ys l : List ℕ) (i : ℕ) → sets (sets l i xs) (i + length xs) ys ≡ sets l i (xs ++ ys)
sets_append [] ys l i = rw add-zero
sets_append (x ∷ xs) ys l i =
    let e : i + suc (length xs) ≡ suc i + length xs = omega arith in
    rw e (sets_append xs ys (set l i x) (suc i))

-- the rows stored, and then zeros to 512: the table
table_is : (K : ℕ → Bool) (is : List Item) (t : List ℕ) → length is ≤ 128 → 512 ≤ length t
    → sets (sets t 0 (words (rows_of K is))) (4 * length is) (replicate (512 - 4 * length is) 0) ≡ table_of K is t
unfolding table_of
table_is K is t few room =
    let rs : List ℕ = words (rows_of K is) in
    let zs : List ℕ = replicate (512 - 4 * length is) 0 in
    let at_rows : 4 * length is ≡ 0 + length rs = omega (arith, words_length K is) in
    let whole : 0 + length (rs ++ zs) ≡ 512 = omega (arith, length-append rs zs, words_length K is, length-replicate {A = ℕ} (512 - 4 * length is) 0) in
    ap (λ k. sets (sets t 0 rs) k zs) at_rows
    ∙ (sets_append rs zs t 0
    ∙ (sets-eq (rs ++ zs) t 0 (omega arith)
    ∙ (ap (λ k. rs ++ zs ++ drop k t) whole
    ∙ append_assoc rs zs (drop 512 t))))

pub filled : (K : ℕ → Bool) (is : List Item) (t : List ℕ) {t' zs : List ℕ} {n : ℕ} → n ≡ length is → n ≤ 128 → 512 ≤ length t
    → t' ≡ sets t 0 (words (rows_of K is)) → zs ≡ replicate (length (mid_of (4 * n) (512 - 4 * n) t')) 0
    → put_mid (4 * n) (512 - 4 * n) t' zs ≡ table_of K is t
filled K is t {t'} {zs} {n} count few room e z =
    let size : length t' ≡ length t = ap length e ∙ length-sets t 0 (words (rows_of K is)) in
    zeros_set t' (4 * n) 512 zs (omega arith) (omega arith) z
    ∙ rw (e, count) (table_is K is t (rw (← count) few) room)

-- the value as it stands
module _ (p : List ℕ) (by : Bytes p) (i : Header) (inside : i.place + i.size ≤ length p) where
  pub value_length : length (take i.size (drop i.place p)) ≡ i.size
  value_length = rw (length-take, length-drop) (omega arith)

-- the byte of a tag's shape for a receiver
module _ (K : TagSet) where
  pub held_below : Words K → (t : ℕ) → holds K t ≡ true → t < 128
  held_below w t e = by_lt t 128 (λ h. h) (λ h. clash (sym e ∙ holds_none K w t h))

  pub byte_known : Words K → (t : ℕ) → holds K t ≡ true → get_or shape_column t 0 ≡ shape_byte (shape_for (holds K) t)
  unfolding shape_for
  byte_known w t e = rw e (byte_in_column t (held_below w t e))

  pub byte_unknown : (t : ℕ) → holds K t ≡ false → shape_byte (shape_for (holds K) t) ≡ 64
  unfolding shape_for
  byte_unknown t e = rw e
