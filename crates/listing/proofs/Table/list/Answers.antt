-- `listing::Table::list` meets its contract.
use native.Mathlib.Nat.{zero-add}
use mathlib.Core.Path.{refl, sym, ◌∙◌}
use borrow.Author.Rules.{rules}
use Rattle.listing.proofs.Texts.{wrote_left}
use borrow.Author.Tests.{leb-true, leb-false}
use Rattle.base.proofs.Putting.{front_room, room_first, room_after, wrote_then}
use Rattle.listing.specs.Lines.{header, lines_of}
use Rattle.listing.proofs.Answers.{does_not_fit, fits}
use Rattle.listing.proofs.Table.list.Goals as goal

pub returns-then-not-fit : goal.returns-then-not-fit
returns-then-not-fit c = does_not_fit refl (leb-false _ _ (sym c.fits-fit.ensures ∙ c.if-not-fit.true)) c.refused.ensures

pub word-requires : goal.word-requires
unfolding header
word-requires c = room_first (lines_of _ _) (front_room refl (leb-true _ _ (sym c.fits-fit.ensures ∙ c.if-not-fit.false)))

pub put_lines-requires : goal.put_lines-requires
unfolding header
put_lines-requires c = room_after c.word.ensures.wrote (front_room refl (leb-true _ _ (sym c.fits-fit.ensures ∙ c.if-not-fit.false)))

pub returns : goal.returns
unfolding header
returns c =
    let w = wrote_then c.word.ensures.wrote c.put_lines.ensures.wrote in
    fits (w.after ∙ zero-add _) refl (wrote_left (search rules) w)
