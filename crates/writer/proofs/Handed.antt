-- The writer that is handed words: what it takes had the right words, with the right words it answers as the plain writer does,
-- and 22 is all that wrong ones add to its refusals.
-- Assumes nothing.
use Prim.Native.Nat.{ℕ}
use mathlib.Core.Path.{◌≡◌, ap, sym, ◌∙◌}
use mathlib.Core.List.{List}
use mathlib.Core.Logic.{◌⊎◌, inl, inr, ⊎_elim}
use Rattle.refusal.specs.Answer.{Answer, given, refused, then}
use Rattle.refusal.proofs.Answers.{then_given}
use Rattle.tagset.specs.declared.TagSet.{TagSet}
use Rattle.tagset.proofs.Laws.{same_true, true_same}
use Rattle.rows.specs.Present.{present_in}
use Rattle.packet.specs.Pieces.{Piece}
use Rattle.packet.specs.Rows.{rows_in}
use Rattle.outgoing.specs.Outgoing.{outgoing_with, outgoing}
use Rattle.outgoing.proofs.Given.{handed_then, agreed_same, same_or_22}
use Rattle.writer.specs.Writes.{roomy, written_with, written}
use Rattle.std.specs.Prelude.{Option, Some}

module _ (K : TagSet) (count : ℕ) (words b : List ℕ) (room : ℕ) where
  -- what the rows come to, and then the room
  same_written : (h : Option TagSet) → outgoing_with K h count words b ≡ outgoing K count words b → written_with K h count words b room ≡ written K count words b room
  unfolding written_with written
  same_written h e = ap (λ (a : Answer (List Piece)). then a (roomy room)) e

  pub handed_right : written_with K (Some (present_in (rows_in 0 count words))) count words b room ≡ written K count words b room
  handed_right =
      let present : TagSet = present_in (rows_in 0 count words) in
      same_written (Some present) (agreed_same K (Some present) count words b (true_same present))

  module _ (s : TagSet) where
    pub handed_given : (cs : List Piece) → written_with K (Some s) count words b room ≡ given cs
        → (written K count words b room ≡ given cs) × (s ≡ present_in (rows_in 0 count words))
    unfolding written_with
    handed_given cs e =
        let g = then_given (outgoing_with K (Some s) count words b) (roomy room) e in
        let agreed = (handed_then K (Some s) count words b g.between g.first).2 in
        (sym (same_written (Some s) (agreed_same K (Some s) count words b agreed)) ∙ e, same_true s (present_in (rows_in 0 count words)) agreed)

    pub handed_refused : (n p t : ℕ) → written_with K (Some s) count words b room ≡ refused n p t
        → (written K count words b room ≡ refused n p t) ⊎ ((n ≡ 22) × (p ≡ 0) × (t ≡ 0))
    unfolding written_with
    handed_refused n p t e =
        ⊎_elim
        (λ same. inl (sym (same_written (Some s) same) ∙ e))
        (λ wrong. let f : refused 22 0 0 ≡ refused n p t = rw wrong at e in inr (cc, cc, cc))
        (same_or_22 K (Some s) count words b)
