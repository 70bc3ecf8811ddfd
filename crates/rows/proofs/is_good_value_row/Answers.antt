-- `rows::is_good_value_row` meets its contract.
use Prim.Native.Nat.{ℕ}
use mathlib.Core.Path.{◌≡◌, ap, sym, ◌∙◌}
use lib.Dec.{eqb}
use Rattle.base.proofs.Cases.{clash}
use Rattle.catalogue.specs.declared.Shape.{Shape}
use Rattle.rows.specs.Meaning.{value_as, kind_of}
use Rattle.rows.specs.Taken.{part_length, value_row_good}
use Rattle.rows.specs.declared.RowWords.{RowWords}
use Rattle.rows.proofs.Laws.{kind_valued}
use Rattle.rows.proofs.is_good_value_row.Goals as goal
use Rattle.rows.proofs.is_good_value_row.Goals.{then-is_good_tag, else-is_good_tag}

-- the kind of a value is found without its length
kind_found : (s : Shape) (r : RowWords) {k : ℕ} → k ≡ kind_of (value_as {A = Unit {0}} s r.code 0 tt)
    → eqb r.kind (kind_of (value_as {A = Unit {0}} s r.code (part_length r.part) tt)) ≡ eqb r.kind k
kind_found s r e = ap (eqb r.kind) (sym (e ∙ kind_valued 0 tt (part_length r.part) tt s r.code))

pub returns-then-row-kind_of_value : goal.returns-then-row-kind_of_value
unfolding value_row_good
returns-then-row-kind_of_value c = elim c.if-is_good_tag.branch [
  | then-is_good_tag w ↦ rw (
    sym c.is_good_tag.ensures ∙ w.if-is_good_tag.true,
    kind_found c.args.shape c.args.row w.kind_of_value.ensures ∙ (sym w.value-is ∙ c.if-row-kind_of_value.true),
  )
      c.is_good_value.ensures
  | else-is_good_tag w ↦ clash (sym c.if-row-kind_of_value.true ∙ (w.value-is ∙ w.if-is_good_tag.false))
]

pub returns-else-row-kind_of_value : goal.returns-else-row-kind_of_value
unfolding value_row_good
returns-else-row-kind_of_value c = elim c.if-is_good_tag.branch [
  | then-is_good_tag w ↦ rw (
    sym c.is_good_tag.ensures ∙ w.if-is_good_tag.true,
    kind_found c.args.shape c.args.row w.kind_of_value.ensures ∙ (sym w.value-is ∙ c.if-row-kind_of_value.false),
  )
      c.if-row-kind_of_value.false
  | else-is_good_tag w ↦ rw (sym c.is_good_tag.ensures ∙ w.if-is_good_tag.false) c.if-row-kind_of_value.false
]
