-- W-201, over every outcome that the contracts allow: "The answer must equal that of a scan of all rows, for each of the tags, and the
-- number of set bits must equal the number of rows that aren't carried. The writer, when handed these words, refuses words that a scan of
-- its rows would not give."
-- Assumes nothing.
use Prim.Native.Nat.{ℕ, ◌≤◌}
use mathlib.Core.Path.{◌≡◌, ap, ap₂, sym, ◌∙◌}
use mathlib.Core.Bool.{◌&&◌, not}
use mathlib.Core.List.{List}
use lib.ListN.{length, take}
use Rattle.refusal.specs.Answer.{given, map, answer_said}
use Rattle.refusal.proofs.Answers.{map_given, given_same, then_given}
use Rattle.number.specs.Stored.{Bytes}
use Rattle.tagset.specs.Sets.{holds, size}
use Rattle.tagset.specs.declared.TagSet.{TagSet}
use Rattle.rows.specs.Present.{is_present, is_withdrawn, has_value, present_in, withdrawn_in, scanned, rows_with}
use Rattle.packet.specs.Pieces.{Piece}
use Rattle.packet.specs.Verdict.{body_of, received, checked}
use Rattle.packet.specs.Rows.{Filled, rows_in, rows_of, SameTable}
use Rattle.packet.specs.declared.Accepted.{Accepted}
use Rattle.laws.proofs.Tables.{HasRead, has_read, read_count, rows_in_table}
use Rattle.laws.proofs.Counted.{accepted_scanned, accepted_withdrawn, accepted_valued, accepted_counted, accepted_withdrawn_counted}
use Rattle.reader.specs.Reads.{Reads}
use Rattle.outgoing.specs.Outgoing.{outgoing}
use Rattle.outgoing.proofs.Present.{sent_scanned, sent_counted}
use Rattle.writer.specs.Writes.{written_with, written_by, output_by, written, roomy, write_answer_with, write_output_with, write_answer, write_output}
use Rattle.writer.specs.Writes.{WritesWith, Writes}
use Rattle.writer.specs.declared.Written.{Written}
use Rattle.writer.proofs.Handed.{handed_given}
use Rattle.promises.proofs.Demands.{written_reads_back}
use Rattle.std.specs.Prelude.{Result, Ok, Some}
use Rattle.refusal.specs.declared.Refusal.{Refusal}

-- a packet that was read: the words answer as a scan of the table's rows does, and have as many bits as rows are not carried, or withdrawn
module _ {K : TagSet} {p t t' : List ℕ} {done : Filled} (c : Reads K p t (Ok done) t') where
  has : HasRead K p t done
  has = has_read K p t done (sym c.answer)

  rows : rows_in 0 done.count t' ≡ rows_of (holds K) has.items
  rows = ap (rows_in 0 done.count) (c.table ∙ has.table) ∙ rows_in_table (holds K) has.items t done.count (read_count has)

  present : done.present ≡ present_in (rows_of (holds K) has.items)
  present = ap (λ f. f.present) (sym has.filled)

  withdrawn : done.withdrawn ≡ withdrawn_in (rows_of (holds K) has.items)
  withdrawn = ap (λ f. f.withdrawn) (sym has.filled)

  pub read_words : done.present ≡ present_in (rows_in 0 done.count t')
  read_words = present ∙ ap present_in (sym rows)

  pub read_withdrawn : done.withdrawn ≡ withdrawn_in (rows_in 0 done.count t')
  read_withdrawn = withdrawn ∙ ap withdrawn_in (sym rows)

  module _ (by : Bytes p) where
    pub read_scanned : (tag : ℕ) → holds done.present tag ≡ scanned is_present tag (rows_in 0 done.count t')
    read_scanned tag =
        ap (λ s. holds s tag) present ∙ (accepted_scanned (holds K) p has.items by has.accepted tag ∙ ap (scanned is_present tag) (sym rows))

    pub read_counted : size done.present ≡ rows_with is_present (rows_in 0 done.count t')
    read_counted = ap size present ∙ (accepted_counted (holds K) p has.items by has.accepted ∙ ap (rows_with is_present) (sym rows))

    -- and of the withdrawn ones
    pub withdrawn_scanned : (tag : ℕ) → holds done.withdrawn tag ≡ scanned is_withdrawn tag (rows_in 0 done.count t')
    withdrawn_scanned tag =
        ap (λ s. holds s tag) withdrawn ∙ (accepted_withdrawn (holds K) p has.items by has.accepted tag ∙ ap (scanned is_withdrawn tag) (sym rows))

    pub withdrawn_counted : size done.withdrawn ≡ rows_with is_withdrawn (rows_in 0 done.count t')
    withdrawn_counted =
        ap size withdrawn ∙ (accepted_withdrawn_counted (holds K) p has.items by has.accepted ∙ ap (rows_with is_withdrawn) (sym rows))

    -- what a screen asks: a tag that is there and not withdrawn has a row with a value, and only such a one
    pub value_scanned : (tag : ℕ) → holds done.present tag && not (holds done.withdrawn tag) ≡ scanned has_value tag (rows_in 0 done.count t')
    value_scanned tag =
        ap₂ (λ s u. holds s tag && not (holds u tag)) present withdrawn
        ∙ (accepted_valued (holds K) p has.items by has.accepted tag ∙ ap (scanned has_value tag) (sym rows))

  -- and who only checks it has the same words
  module _ (b : Accepted) (e : answer_said (Ok b) ≡ checked K p) where
    body : body_of (holds K) has.items ≡ b
    unfolding checked received
    body =
        let f = map_given (body_of (holds K)) (received K p) (sym e) in
        let same : f.0 ≡ has.items = given_same (sym f.1 ∙ rw has.right has.accepted) in
        ap (body_of (holds K)) (sym same) ∙ f.2

    pub check_words : b.present ≡ done.present
    check_words = ap (λ a. a.present) (sym body) ∙ sym present

    pub check_withdrawn : b.withdrawn ≡ done.withdrawn
    check_withdrawn = ap (λ a. a.withdrawn) (sym body) ∙ sym withdrawn

-- rows that were written with their words: the words are those that a scan gives, and it is what the plain writer would have written
module _ {K s : TagSet} {count : ℕ} {words b o o' : List ℕ} {w : Written} (c : WritesWith K (Some s) count words b o (Ok w) o') where
  record Agreed : Type 0 where
    cs : List Piece
    plain : written K count words b (length o) ≡ given cs
    with_words : written_with K (Some s) count words b (length o) ≡ given cs
    bytes : written_by cs ≡ w
    same : s ≡ present_in (rows_in 0 count words)

  agreed : Agreed
  unfolding write_answer_with
  agreed =
      let f = map_given written_by (written_with K (Some s) count words b (length o)) (sym c.answer) in
      let g = handed_given K count words b (length o) s f.0 f.1 in
      record { cs = f.0; plain = g.0; with_words = f.1; bytes = f.2; same = g.1 }

  pub written_words : s ≡ present_in (rows_in 0 count words)
  written_words = agreed.same

  pub written_plainly : Writes K count words b o (Ok w) o'
  unfolding write_answer write_output write_output_with
  written_plainly =
      record {
        answer = sym (ap (map written_by) agreed.plain ∙ ap given agreed.bytes);
        output = c.output ∙ ap (output_by o) (agreed.with_words ∙ sym agreed.plain);
      }

  goes : (cs : List Piece) × (outgoing K count words b ≡ given cs)
  unfolding written
  goes = let g = then_given (outgoing K count words b) (roomy (length o)) agreed.plain in (g.between, g.first)

  pub written_scanned : (tag : ℕ) → holds s tag ≡ scanned is_present tag (rows_in 0 count words)
  written_scanned tag = ap (λ x. holds x tag) written_words ∙ (sent_scanned K count words b goes.0 goes.1 tag)

  pub written_counted : size s ≡ rows_with is_present (rows_in 0 count words)
  written_counted = ap size written_words ∙ (sent_counted K count words b goes.0 goes.1)

  -- so what was written with its words reads back with them
  pub written_with_reads_back : {t t' : List ℕ} {r : Result Filled Refusal} → 512 ≤ length t → Reads K (take w.size o') t r t'
      → (answer_said r ≡ given (record { count = count; present = s; withdrawn = withdrawn_in (rows_in 0 count words) }))
      × SameTable b (take w.size o') (rows_in 0 count words) (rows_in 0 count t')
  written_with_reads_back long d =
      let s = written_reads_back written_plainly long d in
      (s.0 ∙ ap (λ x. given (record { count = count; present = x; withdrawn = withdrawn_in (rows_in 0 count words) })) (sym written_words), s.1)
