-- The answers are those of the reader's rows: whatever the reader fills into a table, they are worked out of it; its refusals, but
-- for 2, are theirs.
-- Assumes nothing.
use Prim.Native.Nat.{ℕ, ◌≤◌}
use mathlib.Core.Path.{◌≡◌}
use mathlib.Core.List.{List}
use lib.ListN.{length}
use Rattle.refusal.specs.Answer.{given, refused}
use Rattle.tagset.specs.declared.TagSet.{TagSet}
use Rattle.rows.specs.declared.RowWords.{RowWords}
use Rattle.packet.specs.Rows.{rows_in, Filled, read_answer, read_table}
use Rattle.laws.proofs.Tables.{has_received, received_refused}
use Rattle.ground.specs.Ground.{from_rows}

module _ {A : Type 0} (f : List RowWords → A) (K : TagSet) (p t : List ℕ) where
  pub reader_rows : (done : Filled) → read_answer K p t ≡ given done → from_rows f K p ≡ given (f (rows_in 0 done.count (read_table K p t)))
  unfolding from_rows
  reader_rows done e = let r = has_received K p t done e in rw (r.accepted, r.rows)

  pub reader_refusal : 512 ≤ length t → (n a u : ℕ) → read_answer K p t ≡ refused n a u → from_rows f K p ≡ refused n a u
  unfolding from_rows
  reader_refusal long n a u e = rw (received_refused K p t long n a u e)
