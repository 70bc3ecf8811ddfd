-- What the writer answers and leaves, by what its rows come to.
-- Assumes nothing.
use Prim.Native.Nat.{ℕ, ◌<◌, ◌≤◌}
use mathlib.Core.Path.{◌≡◌, ap, sym, ◌∙◌}
use mathlib.Core.List.{List}
use lib.ListN.{length}
use borrow.Author.Tests.{lt-ltb, le-ltb}
use Rattle.refusal.specs.Answer.{given, refused, map, answer_said, refusal}
use Rattle.refusal.proofs.Answers.{map_given, map_refused}
use Rattle.refusal.specs.declared.Refusal.{Refusal}
use Rattle.base.specs.Putting.{Wrote}
use Rattle.base.proofs.Putting.{put_front}
use Rattle.tagset.specs.Sets.{holds}
use Rattle.tagset.specs.declared.TagSet.{TagSet}
use Rattle.rows.proofs.Laws.{count-good}
use Rattle.packet.specs.Encode.{encode}
use Rattle.packet.specs.Rows.{rows_in}
use Rattle.outgoing.specs.Outgoing.{outgoing_with, outgoing, packed_of}
use Rattle.outgoing.specs.declared.Packed.{Packed}
use Rattle.outgoing.proofs.Given.{Outgoes, handed_then}
use Rattle.writer.specs.code.Putting.{table_pieces, Ready}
use Rattle.writer.specs.Writes.{WritesWith, written_with, written_by, output_by, write_answer_with, write_output_with}
use Rattle.writer.specs.Writes.{Writes, written, write_answer, write_output}
use Rattle.writer.proofs.Values.{all_can, all_said}
use Rattle.std.specs.Prelude.{Result, Ok, Option, None}
use Rattle.writer.specs.declared.Written.{Written}

-- rows that make a packet
pub record Fit (K : TagSet) (h : Option TagSet) (count : ℕ) (words b : List ℕ) (p : Packed) : Type 0 where
  pub sent : outgoing_with K h count words b ≡ given (table_pieces b count words)
  pub sizes : p ≡ packed_of (table_pieces b count words)
  pub rows : Outgoes K count words b

module _ {K : TagSet} {h : Option TagSet} {count : ℕ} {words b : List ℕ} where
  by_refusal : {o : List ℕ} {n p t : ℕ} {r : Result Written Refusal} → written_with K h count words b (length o) ≡ refused n p t → answer_said r ≡ refused n p t
      → WritesWith K h count words b o r o
  unfolding write_answer_with write_output_with
  by_refusal {o} e s = record { answer = s ∙ sym (ap (map written_by) e); output = sym (ap (output_by o) e) }

  pub rows_refused : {o : List ℕ} (x : Refusal) {r : Result Written Refusal} → refusal x ≡ map packed_of (outgoing_with K h count words b)
      → answer_said r ≡ refusal x → WritesWith K h count words b o r o
  unfolding written_with
  rows_refused {o} x e s = by_refusal {t = x.tag} (rw (map_refused packed_of (outgoing_with K h count words b) _ _ _ (sym e))) s

  pub fit : {p : Packed} → given p ≡ map packed_of (outgoing_with K h count words b) → Fit K h count words b p
  fit e =
      let x = map_given packed_of (outgoing_with K h count words b) (sym e) in
      let g = handed_then K h count words b x.0 x.1 in
      let said : table_pieces b count words ≡ x.0 = all_said (holds K) b (rows_in 0 count words) g.0.rows ∙ g.1 in
      record { sent = x.1 ∙ ap given (sym said); sizes = sym x.2 ∙ ap packed_of (sym said); rows = g.0 }

  module _ {p : Packed} (f : Fit K h count words b p) where
    abbrev packet : List ℕ
    packet = encode (table_pieces b count words)

    size_is : p.size ≡ length packet
    size_is = ap (λ (x : Packed). x.size) f.sizes

    pub too_short : {o : List ℕ} {r : Result Written Refusal} → length o < p.size → answer_said r ≡ refused 18 0 0 → WritesWith K h count words b o r o
    unfolding written_with
    too_short {o} l s = by_refusal (rw (f.sent, lt-ltb (length o) (length packet) (rw (← size_is) l))) s

    pub ready : {room : ℕ} → p.size ≤ room → Ready b count words p.size p.items room
    ready l =
        let c = count-good count (length words) f.rows.counted in
        record {
          rows = record { few = c.0; good = all_can (holds K) b (rows_in 0 count words) f.rows.rows };
          whole = size_is;
          part = ap (λ (x : Packed). x.items) f.sizes;
          small = rw (size_is, all_said (holds K) b (rows_in 0 count words) f.rows.rows) f.rows.pieces.small;
          fits = l;
        }

    is_written : {room : ℕ} → p.size ≤ room → written_with K h count words b room ≡ given (table_pieces b count words)
    unfolding written_with
    is_written {room} l = rw (f.sent, le-ltb room (length packet) (rw (← size_is) l))

    pub packet_written : {o o' : List ℕ} {n : ℕ} → p.size ≤ length o → Wrote o 0 packet n o'
        → WritesWith K h count words b o (Ok (record { size = p.size })) o'
    unfolding write_answer_with write_output_with
    packet_written {o} l w =
        record {
          answer = ap (λ n. given (record { size = n })) size_is ∙ sym (ap (map written_by) (is_written l));
          output = w.output ∙ (put_front o packet (rw (← size_is) l) ∙ sym (ap (output_by o) (is_written l)));
        }

-- nothing handed
pub plainly : {K : TagSet} {count : ℕ} {words b o : List ℕ} {r : Result Written Refusal} {o' : List ℕ} → WritesWith K None count words b o r o'
    → Writes K count words b o r o'
unfolding written_with write_answer_with write_output_with written write_answer write_output outgoing
plainly w = record { answer = w.answer; output = w.output }
