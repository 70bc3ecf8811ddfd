-- `catalogue::shape_at` meets its contract.
use mathlib.Core.Path.{sym, ◌∙◌}
use Rattle.base.proofs.Cases.{cases}
use Rattle.catalogue.specs.code.Column.{shape_in}
use Rattle.catalogue.proofs.shape_at.Goals as goal

pub returns-then-is_extended : goal.returns-then-is_extended
unfolding shape_in
returns-then-is_extended c = rw (sym c.is_extended.ensures ∙ c.if-is_extended.true)

pub returns-then-tag-ge128 : goal.returns-then-tag-ge128
unfolding shape_in
returns-then-tag-ge128 c = rw (sym c.is_extended.ensures ∙ c.if-is_extended.false) (search cases)

pub returns-then-kind-eq4 : goal.returns-then-kind-eq4
unfolding shape_in
returns-then-kind-eq4 c = rw (sym c.is_extended.ensures ∙ c.if-is_extended.false, ← c.from-byte.ensures) (search cases)

pub returns-then-kind-eq3 : goal.returns-then-kind-eq3
unfolding shape_in
returns-then-kind-eq3 c = rw (sym c.is_extended.ensures ∙ c.if-is_extended.false, ← c.from-byte.ensures) (search cases)

pub returns : goal.returns
unfolding shape_in
returns c = rw (sym c.is_extended.ensures ∙ c.if-is_extended.false, ← c.from-byte.ensures) (search cases)
