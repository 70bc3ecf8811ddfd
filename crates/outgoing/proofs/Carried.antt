-- Of rows that are not bad and have no fault, those of known tags are not carried.
-- Assumes nothing.
use Prim.Native.Nat.{ℕ}
use mathlib.Core.Path.{◌≡◌, refl, ◌∙◌}
use mathlib.Core.Bool.{true}
use Rattle.base.proofs.Cases.{by_bool, never}
use Rattle.tagset.specs.Sets.{holds}
use Rattle.tagset.specs.declared.TagSet.{TagSet}
use Rattle.catalogue.specs.Shapes.{shape_of, is_listed, size_allowed}
use Rattle.catalogue.specs.declared.Shape.{Shape}
use Rattle.catalogue.specs.declared.Shape.TheVariants.{Text, Number, Absent}
use Rattle.rows.specs.Meaning.{shape_for}
use Rattle.rows.specs.declared.RowWords.{RowWords}
use Rattle.rows.specs.Taken.{part_length, row_good}
use Rattle.rows.specs.Present.{is_present}
use Rattle.rows.proofs.Present.{good_listed}
use Rattle.packet.specs.Judge.{clean, wrong}
use Rattle.outgoing.specs.code.Staged.{row_fault}

sized_listed : (t n : ℕ) (s : Shape) → size_allowed t s n ≡ true → is_listed s ≡ true
sized_listed t n (Number least most marked) e = refl
sized_listed t n Text e = refl
sized_listed t n Absent e = e

pub clean_present : (K seen : TagSet) (room : ℕ) (r : RowWords) → row_good (shape_for (holds K) r.tag) room r ≡ true → row_fault K seen r ≡ clean
    → is_present r ≡ holds K r.tag
unfolding shape_for row_fault
clean_present K seen room r g f =
    good_listed (shape_for (holds K) r.tag) room r g
    ∙ by_bool (holds K r.tag)
    (λ k. rw k (by_bool (size_allowed r.tag (shape_of r.tag) (part_length r.part))
    (sized_listed r.tag (part_length r.part) (shape_of r.tag))
    (λ a. let z : wrong 12 ≡ clean = rw (k, a) at f in never (cc))))
    (λ k. rw k)
