-- What the loop over the rows keeps: the rows that are left, and the output that they will make.
-- Assumes nothing.
use Prim.Native.Nat.{ℕ, ◌+◌, ◌-◌, ◌<◌, ◌≤◌}
use native.Mathlib.Nat.{sub-zero}
use mathlib.Core.Path.{◌≡◌}
use mathlib.Core.List.{List, [], ◌∷◌}
use lib.ListN.{length}
use Rattle.base.specs.Every.{Each}
use Rattle.base.specs.Putting.{put_into, Room, Wrote}
use Rattle.base.proofs.Putting.{to_write, wrote_nothing}
use Rattle.rows.specs.declared.RowWords.{RowWords}
use Rattle.rows.specs.Taken.{row_at}
use Rattle.packet.specs.Encode.{item_bytes, items_bytes}
use Rattle.packet.specs.Rows.{rows_in}
use Rattle.laws.proofs.Tables.{rows-from, rows_none}
use Rattle.writer.specs.code.Putting.{piece_said, pieces_said, table_bytes, CanPut}
use Rattle.writer.proofs.Pieces.{piece_room, piece_put}

-- rows are left: put at a place, they make the output x and end at a place
pub record Left (b : List ℕ) (rs : List RowWords) (o : List ℕ) (at end : ℕ) (x : List ℕ) : Type 0 where
  pub good : Each (CanPut b) rs
  pub rest : Wrote o at (items_bytes (pieces_said b rs)) end x

module _ {b : List ℕ} (words : List ℕ) (count : ℕ) where
  pub all_left : {o : List ℕ} {from : ℕ} → Each (CanPut b) (rows_in 0 count words) → Room o from (table_bytes b count words)
      → Left b (rows_in 0 (count - 0) words) o from (from + length (table_bytes b count words)) (put_into o from (table_bytes b count words))
  all_left g h = rw sub-zero (record { good = g; rest = to_write h })

  module _ (n : ℕ) {o : List ℕ} {at end : ℕ} {x : List ℕ} (l : Left b (rows_in n (count - n) words) o at end x) where
    pub table_done : count ≤ n → (end ≡ at) × (x ≡ o)
    unfolding pieces_said items_bytes
    table_done h = let d : Left b [] o at end x = rw (rows_none words n count h) at l in wrote_nothing d.rest

    module _ (h : n < count) {r : RowWords} (e : r ≡ row_at words n) where
      this : Left b (r ∷ rows_in (n + 1) (count - (n + 1)) words) o at end x
      this = rw e (rw (rows-from words n count h) at l)

      pub asked : CanPut b r × Room o at (item_bytes (piece_said b r))
      unfolding pieces_said
      asked = (this.good.0, piece_room _ _ this.rest)

      pub done : {at' : ℕ} {o' : List ℕ} → Wrote o at (item_bytes (piece_said b r)) at' o' → Left b (rows_in (n + 1) (count - (n + 1)) words) o' at' end x
      unfolding pieces_said
      done w = record { good = this.good.1; rest = piece_put _ _ this.rest w }
