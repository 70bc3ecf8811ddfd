-- Rows walked one after another: what each row adds, and what is left at the end.
-- Assumes nothing.
use Prim.Native.Nat.{ℕ, zero, suc, ◌+◌, ◌-◌, ◌*◌, ◌<◌, ◌≤◌}
use native.Mathlib.Omega.{arith}
use mathlib.Core.Path.{◌≡◌, ap}
use mathlib.Core.Bool.{true, false, cond}
use mathlib.Core.List.{List}
use lib.ListN.{length}
use lib.Dec.{ltb, eqb}
use Rattle.base.proofs.Cases.{by_bool}
use Rattle.refusal.specs.Answer.{given, refused}
use Rattle.ber.specs.Written.{tag_bytes, length_bytes}
use Rattle.ber.proofs.Laws.{sized}
use Rattle.tagset.specs.Sets.{holds, with_tag}
use Rattle.tagset.specs.declared.TagSet.{TagSet}
use Rattle.catalogue.specs.declared.Shape.{Shape}
use Rattle.rows.specs.Meaning.{shape_for}
use Rattle.rows.specs.declared.RowWords.{RowWords}
use Rattle.rows.specs.Taken.{part_length, row_good, tag_shown, row_at}
use Rattle.rows.specs.Present.{is_present, with_row, words_from}
use Rattle.packet.specs.Judge.{Knowing, Fault, clean, wrong}
use Rattle.laws.proofs.Tables.{rows-from, rows_none}
use Rattle.packet.specs.Rows.{rows_in}
use Rattle.outgoing.specs.Outgoing.{right_rows}
use Rattle.outgoing.specs.code.Staged.{row_size, rows_size, row_fault, unless_faulty, rows_judged}

-- how many bytes the items of rows can have
tag_most : (t : ℕ) → length (tag_bytes t) ≤ 3
unfolding tag_bytes
tag_most t =
    by_bool (eqb t 0) (λ e. rw e (omega arith))
    (λ e. by_bool (ltb t 128) (λ f. rw (e, f) (omega arith))
    (λ f. by_bool (ltb t 16384) (λ g. rw (e, f, g) (omega arith))
    (λ g. by_bool (ltb t 2097152) (λ h. rw (e, f, g, h) (omega arith)) (λ h. rw (e, f, g, h) (omega arith)))))

pub record Small (r : RowWords) : Type 0 where
  pub tag : length (tag_bytes r.tag) ≤ 3
  pub head : length (length_bytes (part_length r.part)) ≤ 5
  pub value : part_length r.part < 65536

pub row_small : (r : RowWords) → Small r
row_small r =
    let v : part_length r.part < 65536 = omega arith in
    record { tag = tag_most r.tag; head = (sized (part_length r.part) (omega (arith, v))).most; value = v }

pub rows_small : (k n : ℕ) (words : List ℕ) → rows_size (rows_in k n words) ≤ n * 65543
unfolding rows_in rows_size
rows_small k zero words = omega arith
rows_small k (suc n) words =
    let s = row_small (row_at words k) in
    omega (arith, rows_small (suc k) n words, s.tag, s.head, s.value)

module _ (words : List ℕ) (count n : ℕ) where
  module _ (h : n < count) where
    abbrev rest : List RowWords
    rest = rows_in (n + 1) (count - (n + 1)) words

    size_more : rows_size (rows_in n (count - n) words) ≡ row_size (row_at words n) + rows_size (rows_in (n + 1) (count - (n + 1)) words)
    unfolding rows_size
    size_more = rw (rows-from words n count h)

    -- a row as the code has it
    module _ (r : RowWords) (same : r ≡ row_at words n) where
      pub size_by : (bytes : ℕ) → bytes ≡ row_size r
          → rows_size (rows_in n (count - n) words) ≡ bytes + rows_size (rows_in (n + 1) (count - (n + 1)) words)
      size_by bytes e = rw (e, same) size_more

      module _ (K : Knowing) (room : ℕ) (s : Shape) (shape : s ≡ shape_for K r.tag) where
        pub good_more : row_good s room r ≡ true
            → right_rows K room n (rows_in n (count - n) words) ≡ right_rows K room (n + 1) (rows_in (n + 1) (count - (n + 1)) words)
        unfolding right_rows
        good_more g =
            let g' : row_good (shape_for K r.tag) room r ≡ true = rw shape at g in
            let e : suc n ≡ n + 1 = omega arith in
            rw (rows-from words n count h, ← same, g') (ap (λ k. right_rows K room k rest) e)

        pub good_bad : row_good s room r ≡ false → right_rows K room n (rows_in n (count - n) words) ≡ refused 17 n (tag_shown r.tag)
        unfolding right_rows
        good_bad g =
            let g' : row_good (shape_for K r.tag) room r ≡ false = rw shape at g in
            rw (rows-from words n count h, ← same, g')

      pub words_more : (s : TagSet)
          → words_from is_present s (rows_in n (count - n) words) ≡ words_from is_present (with_row is_present s r) (rows_in (n + 1) (count - (n + 1)) words)
      unfolding words_from
      words_more s = rw (rows-from words n count h, ← same)

      module _ (K seen : TagSet) where
        judged_by : (f : Fault) → f ≡ row_fault K seen r
            → rows_judged K seen n (rows_in n (count - n) words) ≡ unless_faulty f n r.tag (rows_judged K (with_tag seen r.tag) (n + 1) rest)
        unfolding rows_judged
        judged_by f e = rw (rows-from words n count h, ← same, ← e)

        pub judged_more : clean ≡ row_fault K seen r
            → rows_judged K seen n (rows_in n (count - n) words) ≡ rows_judged K (with_tag seen r.tag) (n + 1) (rows_in (n + 1) (count - (n + 1)) words)
        judged_more e = judged_by clean e

        pub judged_wrong : (m : ℕ) → wrong m ≡ row_fault K seen r → rows_judged K seen n (rows_in n (count - n) words) ≡ refused m n r.tag
        judged_wrong m e = judged_by (wrong m) e

  pub size_end : count ≤ n → rows_size (rows_in n (count - n) words) ≡ 0
  unfolding rows_size
  size_end h = rw (rows_none words n count h)

  pub words_end : (s : TagSet) → count ≤ n → words_from is_present s (rows_in n (count - n) words) ≡ s
  unfolding words_from
  words_end s h = rw (rows_none words n count h)

  pub good_end : (K : Knowing) (room : ℕ) → count ≤ n → right_rows K room n (rows_in n (count - n) words) ≡ given tt
  unfolding right_rows
  good_end K room h = rw (rows_none words n count h)

  pub judged_end : (K seen : TagSet) → count ≤ n
      → rows_judged K seen n (rows_in n (count - n) words) ≡ cond (holds seen 65) (given tt) (refused 15 0 0)
  unfolding rows_judged
  judged_end K seen h = rw (rows_none words n count h)
