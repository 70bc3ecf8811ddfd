-- The words of a table that is sent out: they answer as a scan of its rows does, and have as many bits as rows are not carried.
-- Assumes nothing.
use Prim.Native.Nat.{ℕ}
use mathlib.Core.Path.{◌≡◌}
use mathlib.Core.List.{List}
use Rattle.refusal.specs.Answer.{given}
use Rattle.tagset.specs.Sets.{holds, size}
use Rattle.tagset.specs.declared.TagSet.{TagSet}
use Rattle.rows.specs.Present.{is_present, present_in, scanned, rows_with}
use Rattle.packet.specs.Pieces.{Piece}
use Rattle.packet.specs.Rows.{rows_in}
use Rattle.laws.proofs.Counted.{rows_scanned, rows_counted}
use Rattle.outgoing.specs.Outgoing.{outgoing}
use Rattle.outgoing.proofs.Given.{outgoing_then}

module _ (K : TagSet) (count : ℕ) (words b : List ℕ) (cs : List Piece) (e : outgoing K count words b ≡ given cs) where
  -- "The answer must equal that of a scan of all rows, for each of the tags"
  pub sent_scanned : (t : ℕ) → holds (present_in (rows_in 0 count words)) t ≡ scanned is_present t (rows_in 0 count words)
  sent_scanned = rows_scanned (holds K) b (rows_in 0 count words) (outgoing_then K count words b cs e).0.rows

  -- "the number of set bits must equal the number of rows that aren't carried"
  pub sent_counted : size (present_in (rows_in 0 count words)) ≡ rows_with is_present (rows_in 0 count words)
  sent_counted =
      let o = (outgoing_then K count words b cs e).0 in
      rows_counted (holds K) b (rows_in 0 count words) o.rows o.pieces.faultless
