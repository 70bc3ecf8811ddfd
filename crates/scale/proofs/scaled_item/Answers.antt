-- `scale::scaled_item` meets its contract.
use Prim.Native.Nat.{ℕ}
use borrow.Author.Rules.{rules}
use mathlib.Core.Bool.{Bool, false}
use mathlib.Core.Path.{◌≡◌, sym, ◌∙◌}
use lib.Signed.{lt_z}
use mir.Syntax.{w64}
use mir.Val.{SFits, to_z, of_z}
use mir.Facts.{to_z-of_z}
use Rattle.catalogue.specs.Extended.{is_extended}
use Rattle.catalogue.specs.Items.{item_of}
use Rattle.catalogue.specs.declared.Item.{Item}
use Rattle.scale.specs.Scales.{scaled}
use Rattle.scale.proofs.Classes.{scaled_by_range}
use Rattle.scale.proofs.Rule.{rule}
use Rattle.scale.proofs.scaled_item.Goals as goal
use Rattle.std.specs.Prelude.{Some}

-- the range alone shows whether the item has a scale
ranged : (t : ℕ) (i : Item) {b : Bool} → SFits w64 i.low → SFits w64 i.high → item_of t ≡ Some i → is_extended t ≡ false
    → lt_z (to_z w64 (of_z w64 i.low)) (to_z w64 (of_z w64 i.high)) ≡ b → scaled i ≡ b
ranged t i low high found plain test = scaled_by_range t i found plain ∙ (rw (to_z-of_z low, to_z-of_z high) at test)

pub invariant_of-result : goal.invariant_of-result
invariant_of-result c =
    let found = sym c.item_of.ensures ∙ c.in_ok-item.was in
    record { rule = rule c.args.tag _ found (ranged c.args.tag c.in_ok-item.item (search rules) (search rules) found c.requires c.if-item.true) }

pub returns-then-item : goal.returns-then-item
returns-then-item c =
    let found = sym c.item_of.ensures ∙ c.in_ok-item.was in
    rw (found, ranged c.args.tag c.in_ok-item.item (search rules) (search rules) found c.requires c.if-item.true)

pub returns-in_err-item : goal.returns-in_err-item
returns-in_err-item c = rw (c.from_residual.ensures, ← c.item_of.ensures, c.in_err-item.was)

pub returns : goal.returns
returns c =
    let found = sym c.item_of.ensures ∙ c.in_ok-item.was in
    rw (found, ranged c.args.tag c.in_ok-item.item (search rules) (search rules) found c.requires c.if-item.false)
