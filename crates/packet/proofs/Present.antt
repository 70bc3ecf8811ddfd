-- Which rows of a receiver are not carried: those of the tags that it knows; and which are withdrawn: those of them that have no bytes.
-- Assumes nothing.
use mathlib.Core.Path.{◌≡◌, ap, ◌∙◌}
use mathlib.Core.Bool.{◌&&◌}
use lib.Dec.{eqb}
use lib.ListN.{length}
use Rattle.number.specs.Stored.{value_of}
use Rattle.tagset.specs.Sets.{holds}
use Rattle.tagset.specs.declared.TagSet.{TagSet}
use Rattle.knowing.proofs.Laws.{Good}
use Rattle.rows.specs.Meaning.{shape_for}
use Rattle.rows.specs.Present.{is_present, is_withdrawn}
use Rattle.rows.proofs.Present.{kind_listed, kind_withdrawn, known_listed}
use Rattle.packet.specs.Pieces.{Item}
use Rattle.packet.specs.Seen.{row_of}

pub row_present : (K : TagSet) → Good K → (i : Item) → is_present (row_of (holds K) i) ≡ holds K i.piece.tag
unfolding row_of
row_present K good i =
    let v = i.piece.value in
    kind_listed (shape_for (holds K) i.piece.tag) (value_of v) (length v) v ∙ known_listed K good i.piece.tag

pub row_withdrawn : (K : TagSet) → Good K → (i : Item) → is_withdrawn (row_of (holds K) i) ≡ (holds K i.piece.tag && eqb (length i.piece.value) 0)
unfolding row_of
row_withdrawn K good i =
    let v = i.piece.value in
    kind_withdrawn (shape_for (holds K) i.piece.tag) (value_of v) (length v) v ∙ ap (λ b. b && eqb (length v) 0) (known_listed K good i.piece.tag)
