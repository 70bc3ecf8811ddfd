-- `walker::shape_of` meets its contract.
use Rattle.std.proofs.Common.{◌≡◌, ◌∙◌, Option, Some, None}
use Rattle.std.specs.Option.{MatchOption}
use Rattle.catalogue.specs.Shapes.{shape_by}
use Rattle.catalogue.specs.declared.Item.{Item}
use Rattle.catalogue.specs.declared.Shape.{Shape}
use Rattle.catalogue.specs.declared.Shape.TheVariants.{Absent}
use Rattle.walker.proofs.Rows.{not_known, listed}
use Rattle.walker.proofs.shape_of.Goals as goal

mapped : (o : Option Item) (s : Shape) → MatchOption o (s ≡ Absent) (λ i. s ≡ shape_by (Some i)) → s ≡ shape_by o
mapped None s h = h
mapped (Some i) s h = h

pub returns-then-has : goal.returns-then-has
returns-then-has c = mapped _ _ c.map_or.ensures ∙ listed _ _ _ c.has.ensures c.if-has.true _ c.item_of.ensures

pub returns : goal.returns
returns c = not_known _ _ _ c.has.ensures c.if-has.false
