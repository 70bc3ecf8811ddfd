-- `items::item_of` meets its contract.
use Prim.Native.Nat.{ℕ}
use mathlib.Core.Bool.{Bool}
use mathlib.Core.Path.{◌≡◌, sym, ap, ◌∙◌}
use mir.Facts.{to_z-of_z}
use Rattle.tagset.specs.Sets.{holds}
use Rattle.tagset.specs.declared.TagSet.{TagSet}
use Rattle.catalogue.specs.Rows.{all_tags}
use Rattle.catalogue.proofs.Laws.{item_held, item_none}
use Rattle.items.proofs.item_of.Goals as goal

-- what was asked of the set that is all tags
held : (t : ℕ) {all : TagSet} {r b : Bool} → all ≡ all_tags → r ≡ holds all t → r ≡ b → holds all_tags t ≡ b
held t e f g = ap (λ s. holds s t) (sym e) ∙ (sym f ∙ g)

pub row_of-row-requires : goal.row_of-row-requires
row_of-row-requires c = held c.args.tag c.all_tags-all.ensures c.has.ensures c.if-has.true

pub sign_of-requires : goal.sign_of-requires
sign_of-requires c =
    rw c.row_of-row.ensures (item_held _ (held c.args.tag c.all_tags-all.ensures c.has.ensures c.if-has.true)).right.sum_fits

pub returns-then-has : goal.returns-then-has
returns-then-has c =
    let h = (item_held _ (held c.args.tag c.all_tags-all.ensures c.has.ensures c.if-has.true)).right in
    rw (c.sign_of.ensures, c.row_of-row.ensures, to_z-of_z h.low_fits, to_z-of_z h.high_fits) h.item

pub returns : goal.returns
returns c = sym (item_none _ (held c.args.tag c.all_tags-all.ensures c.has.ensures c.if-has.false))
