-- Lines row by row: those of a table's rows from one of them on.
-- Assumes nothing.
use Prim.Native.Nat.{ℕ, zero, suc, ◌+◌, ◌*◌, ◌-◌, ◌<◌, ◌≤◌}
use native.Mathlib.Omega.{arith}
use native.Mathlib.Nat.{sub-zero, add-zero, zero-add, le_trans}
use mathlib.Core.Path.{◌≡◌, ap}
use mathlib.Core.Bool.{true}
use mathlib.Core.List.{List, [], ◌++◌}
use lib.Dec.{leb}
use lib.ListN.{length, length-append}
use borrow.Author.Tests.{le-leb}
use Rattle.base.specs.Every.{Each}
use Rattle.base.specs.Putting.{put_into, Room, Wrote}
use Rattle.base.proofs.Putting.{to_write, wrote_room, room_first, wrote_rest, wrote_nothing}
use Rattle.rows.specs.declared.RowWords.{RowWords}
use Rattle.rows.specs.Taken.{row_at}
use Rattle.packet.specs.Rows.{rows_in}
use Rattle.laws.proofs.Tables.{rows-from, rows_none, rows_count}
use Rattle.listing.specs.Lines.{header, line_of, lines_of}
use Rattle.listing.specs.code.Listable.{InPacket, Listable}

row_inside : (p words : List ℕ) (k count n : ℕ) → Each (InPacket p) (rows_in k count words) → n < count → InPacket p (row_at words (k + n))
unfolding rows_in
row_inside p words k zero n l h = absurd (omega arith)
row_inside p words k (suc count) zero l h = rw add-zero l.0
row_inside p words k (suc count) (suc n) l h = let e : k + suc n ≡ suc k + n = omega arith in rw e (row_inside p words (suc k) count n l.1 (omega arith))

-- the lines of the rows from the one numbered n on
abbrev pub lines_from : List ℕ → List ℕ → ℕ → ℕ → List ℕ
lines_from p words n count = lines_of p (rows_in n (count - n) words)

module _ (p words : List ℕ) (n count : ℕ) where
  lines_none : count ≤ n → lines_from p words n count ≡ []
  unfolding lines_of
  lines_none h = ap (lines_of p) (rows_none words n count h)

  pub all_counted : {size total : ℕ} → count ≤ n → size + length (lines_from p words n count) ≡ total → size ≡ total
  all_counted h e = omega (arith, rw (lines_none h) at e)

  pub all_written : {o : List ℕ} {at : ℕ} {x : List ℕ} {end : ℕ} → count ≤ n → Wrote o at (lines_from p words n count) end x → (end ≡ at) × (x ≡ o)
  all_written h w = wrote_nothing (rw (lines_none h) at w)

  -- the line of the row numbered n, as the code has it
  module _ (h : n < count) {q : List ℕ} {r : RowWords} (here : (q ≡ p) × (r ≡ row_at words n)) where
    lines_first : lines_from p words n count ≡ line_of q r ++ lines_from p words (n + 1) count
    unfolding lines_of
    lines_first = rw (here.0, here.1) (ap (lines_of p) (rows-from words n count h))

    pub counted : {line : ℕ} → line ≡ length (line_of q r) → line + length (lines_from p words (n + 1) count) ≡ length (lines_from p words n count)
    counted e = rw (lines_first, length-append) (omega arith)

    module _ {o : List ℕ} {at : ℕ} {x : List ℕ} {end : ℕ} (w : Wrote o at (lines_from p words n count) end x) where
      pub line_room : Room o at (line_of q r)
      line_room = room_first (lines_from p words (n + 1) count) (wrote_room (rw lines_first at w))

      pub written : {m : ℕ} {o₁ : List ℕ} → Wrote o at (line_of q r) m o₁ → Wrote o₁ m (lines_from p words (n + 1) count) end x
      written v = wrote_rest v (rw lines_first at w)

module _ (p words : List ℕ) (count : ℕ) where
  pub lines_all : lines_from p words 0 count ≡ lines_of p (rows_in 0 count words)
  lines_all = rw sub-zero

  abbrev lines : List ℕ
  lines = lines_of p (rows_in 0 count words)

  -- what putting all of them will come to
  pub none_written : {o : List ℕ} {from : ℕ} → Room o from lines → Wrote o from (lines_from p words 0 count) (from + length lines) (put_into o from lines)
  none_written h = rw lines_all (to_write h)

  module _ (l : Listable p (rows_in 0 count words)) where
    pub line_inside : (n : ℕ) → n < count → {r : RowWords} → r ≡ row_at words n → InPacket p r
    line_inside n h e = rw (e, ← zero-add n) (row_inside p words 0 count n l.inside h)

    pub lines_few : count ≤ 128
    lines_few = rw (rows_count 0 count words) at l.few

    pub lines_short : length lines ≤ 42 * count + 2 * length p
    lines_short = rw (rows_count 0 count words) at l.short

    lines_most : length (header ++ lines) ≤ 21 + 42 * count + 2 * length p
    unfolding header
    lines_most = rw length-append (omega (arith, lines_short))

    pub lines_within : (room : ℕ) → 21 + 42 * count + 2 * length p ≤ room → leb (length (header ++ lines)) room ≡ true
    lines_within room h = le-leb _ _ (le_trans lines_most h)
