-- Demand 2: what was written is accepted by the set it was written with, and gives the same table.
-- Assumes nothing.
use Prim.Native.Nat.{ℕ, suc, ◌≤◌}
use mathlib.Core.Path.{◌≡◌, refl, ap, sym, ◌∙◌}
use mathlib.Core.Bool.{true}
use mathlib.Core.List.{List, [], ◌∷◌}
use lib.ListN.{length, take, drop}
use lib.Seq.{take-append_seam}
use lib.Dec.{ltb}
use borrow.Author.Tests.{le-ltb}
use Rattle.base.proofs.Every.{both_left}
use Rattle.refusal.specs.Answer.{given}
use Rattle.refusal.proofs.Answers.{given_same, missed, then_given, map_given}
use Rattle.tagset.specs.Sets.{holds}
use Rattle.tagset.specs.declared.TagSet.{TagSet}
use Rattle.knowing.specs.Good.{good}
use Rattle.rows.specs.declared.RowWords.{RowWords}
use Rattle.rows.proofs.Laws.{count-good}
use Rattle.packet.specs.Pieces.{Piece}
use Rattle.packet.specs.Judge.{Knowing}
use Rattle.packet.specs.Encode.{encode}
use Rattle.packet.specs.Rows.{rows_in, pieces_of, filled_with, lent_verdict, read_answer, read_table, SameTable, no_rows, one_more}
use Rattle.laws.proofs.Present.{same_present, same_withdrawn}
use Rattle.laws.proofs.Written.{Sendable}
use Rattle.laws.proofs.Rows.{all_tagged}
use Rattle.laws.proofs.Tables.{rows_in_table, rows_count, items_count}
use Rattle.laws.proofs.Readings.{written_table}
use Rattle.outgoing.specs.Outgoing.{outgoing}
use Rattle.outgoing.proofs.Given.{Outgoes, outgoing_then}
use Rattle.writer.specs.Writes.{roomy, written, written_by, write_answer, write_output}
use Rattle.writer.specs.declared.Written.{Written}

pieces_count : (K : Knowing) (b : List ℕ) (rs : List RowWords) → length (pieces_of K b rs) ≡ length rs
unfolding pieces_of
pieces_count K b [] = refl
pieces_count K b (r ∷ rs) = ap suc (pieces_count K b rs)

same_count : {b c : List ℕ} {rs ss : List RowWords} → SameTable b c rs ss → length rs ≡ length ss
same_count no_rows = refl
same_count (one_more r s) = ap suc (same_count s)

-- a table that goes out can be sent
can_send : (K : TagSet) (count : ℕ) (words b : List ℕ) → Outgoes K count words b → Sendable (pieces_of (holds K) b (rows_in 0 count words))
can_send K count words b g =
    let s = g.pieces in
    let last = s.end.last in
    record {
      tags = all_tagged (holds K) b (rows_in 0 count words) g.rows;
      few = rw (pieces_count, rows_count) (count-good count (length words) g.counted).0;
      first = s.start.first;
      others = s.start.others;
      begins = s.start.parts;
      time = s.start.time;
      front = s.end.front;
      last = last;
      closes = s.end.parts;
      checksum = s.end.checksum;
      pair = s.end.pair;
      fits = s.small;
    }

-- what the writer has written
record Wrote (K : TagSet) (count : ℕ) (words b o : List ℕ) (done : Written) : Type 0 where
  rows : Outgoes K count words b
  size : done ≡ written_by (pieces_of (holds K) b (rows_in 0 count words))
  is : written K count words b (length o) ≡ given (pieces_of (holds K) b (rows_in 0 count words))

module _ (K : TagSet) (count : ℕ) (words b o : List ℕ) (done : Written) where
  module _ (e : write_answer K count words b o ≡ given done) where
    wrote : Wrote K count words b o done
    unfolding write_answer written
    wrote =
        let f = map_given written_by (written K count words b (length o)) e in
        let a = then_given (outgoing K count words b) (roomy (length o)) f.1 in
        let m = missed (ltb (length o) (length (encode a.between))) (given a.between) 18 0 0 a.second in
        let g = outgoing_then K count words b a.between a.first in
        let same : f.0 ≡ pieces_of (holds K) b (rows_in 0 count words) = sym (given_same m.1) ∙ sym g.1 in
        record { rows = g.0; size = sym f.2 ∙ ap written_by same; is = f.1 ∙ ap given same }

    abbrev cs : List Piece
    cs = pieces_of (holds K) b (rows_in 0 count words)

    pub bytes_written : take done.size (write_output K count words b o) ≡ encode (pieces_of (holds K) b (rows_in 0 count words))
    unfolding write_output
    bytes_written = rw (wrote.is, wrote.size) (take-append_seam (encode cs) (drop (length (encode cs)) o))

    pub written_read : (t : List ℕ) → 512 ≤ length t
        → (read_answer K (take done.size (write_output K count words b o)) t ≡ given (filled_with count (rows_in 0 count words)))
        × SameTable b (take done.size (write_output K count words b o)) (rows_in 0 count words)
        (rows_in 0 count (read_table K (take done.size (write_output K count words b o)) t))
    unfolding read_answer read_table lent_verdict
    written_read t long =
        let g = wrote.rows in
        let one : holds K 1 ≡ true = knows_one in
        let w = written_table (holds K) b (rows_in 0 count words) one g.rows (can_send K count words b g) g.pieces.faultless in
        let k : length w.0 ≡ count = sym (items_count (holds K) w.0) ∙ (sym (same_count w.2) ∙ rows_count 0 count words) in
        rw (bytes_written, g.knows, le-ltb (length t) 512 long, w.1, rows_in_table (holds K) w.0 t count k)
        (rw (k, same_present b (encode cs) w.2, same_withdrawn b (encode cs) w.2), w.2)
      where
        knows_one : holds K 1 ≡ true
        knows_one = unfold good in both_left (holds K 1) _ wrote.rows.knows
