-- A refusal changes nothing in the memory lent.
-- Assumes nothing.
use Prim.Native.Nat.{ℕ, ◌+◌}
use native.Mathlib.Omega.{arith}
use mathlib.Core.Path.{◌≡◌, refl, ap, sym}
use mathlib.Core.List.{List}
use lib.ListN.{length}
use borrow.Author.Tests.{lt-leb, le-ltb}
use Rattle.base.proofs.Cases.{by_lt}
use Rattle.base.specs.Putting.{put_into}
use Rattle.refusal.specs.Answer.{Answer, given, refused, then, or_else}
use Rattle.refusal.proofs.Answers.{not_given, map_refused}
use Rattle.tagset.specs.Sets.{holds}
use Rattle.tagset.specs.declared.TagSet.{TagSet}
use Rattle.packet.specs.Rows.{Filled, filled_by, lent_verdict, read_answer, table_by, read_table}
use Rattle.outgoing.specs.Outgoing.{outgoing}
use Rattle.writer.specs.Writes.{written_with, written_by, output_by, write_answer_with, write_output_with, written, write_answer, write_output}
use Rattle.relay.specs.Forwards.{own_table, forward_answer, forward_output}
use Rattle.listing.specs.Lists.{text_answer}
use Rattle.std.specs.Prelude.{Option, None}

module _ (n a u : ℕ) (K : TagSet) where
  pub table_stays : (p t : List ℕ) → read_answer K p t ≡ refused n a u → read_table K p t ≡ t
  unfolding read_answer read_table
  table_stays p t e = ap (table_by (holds K) t) (map_refused (filled_by (holds K)) (lent_verdict K p t) n a u e)

  -- whatever the writer is handed
  pub handed_stays : (h : Option TagSet) (count : ℕ) (words b o : List ℕ) → write_answer_with K h count words b o ≡ refused n a u
      → write_output_with K h count words b o ≡ o
  unfolding write_answer_with write_output_with
  handed_stays h count words b o e = ap (output_by o) (map_refused written_by (written_with K h count words b (length o)) n a u e)

  pub output_stays : (count : ℕ) (words b o : List ℕ) → write_answer K count words b o ≡ refused n a u → write_output K count words b o ≡ o
  unfolding write_answer write_output write_answer_with write_output_with written written_with outgoing
  output_stays count words b o e = handed_stays None count words b o e

  pub forward_stays : (p o : List ℕ) → forward_answer K p o ≡ refused n a u → forward_output K p o ≡ o
  unfolding forward_answer forward_output
  forward_stays p o e = go (read_answer K p own_table) e
    where
      go : (r : Answer Filled) → then r (λ done. write_answer K done.count (read_table K p own_table) p o) ≡ refused n a u
          → or_else o (λ done. write_output K done.count (read_table K p own_table) p o) r ≡ o
      go (given done) e = output_stays done.count (read_table K p own_table) p o e
      go (refused m b v) e = refl

pub text_stays : (n a u : ℕ) (text o : List ℕ) → text_answer text o ≡ refused n a u → put_into o 0 text ≡ o
unfolding text_answer put_into
text_stays n a u text o e =
    by_lt (length o) (length text)
    (λ h. rw (lt-leb (0 + length text) (length o) (omega arith)))
    (λ h. not_given (sym (rw (le-ltb (length o) (length text) h) at e)))
