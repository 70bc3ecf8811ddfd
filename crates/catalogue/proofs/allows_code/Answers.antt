-- `catalogue::allows_code` meets its contract.
use native.Mathlib.Omega.{arith}
use Rattle.base.proofs.Cases.{cases}
use mathlib.Core.Path.{sym, ◌∙◌}
use mathlib.Core.Bool.{or-true}
use lib.Dec.{eqb}
use borrow.Author.Tests.{ne_eqb}
use Rattle.catalogue.specs.Extended.{is_extended}
use Rattle.catalogue.specs.Shapes.{code_allowed}
use Rattle.catalogue.proofs.allows_code.Goals as goal

pub returns-then-size-eq0 : goal.returns-then-size-eq0
unfolding code_allowed
returns-then-size-eq0 c = search cases

pub returns-else-size-eq0 : goal.returns-else-size-eq0
unfolding code_allowed
returns-else-size-eq0 c =
    let t = c.args.tag in
    rw (
      ne_eqb c.args.size 0 c.if-size-eq0.false,
      ne_eqb t 34 (λ z. omega arith),
      ne_eqb t 63 (λ z. omega arith),
      sym c.is_extended.ensures ∙ c.if-is_extended.true,
    )
    c.is_in_reach.ensures

pub returns-then-tag-gt63 : goal.returns-then-tag-gt63
unfolding code_allowed
returns-then-tag-gt63 c =
    let t = c.args.tag in
    rw (ne_eqb t 34 (λ z. omega arith), ne_eqb t 63 (λ z. omega arith), sym c.is_extended.ensures ∙ c.if-is_extended.false)
    (sym (or-true (eqb c.args.size 0)))

pub returns-in-34 : goal.returns-in-34
unfolding code_allowed
returns-in-34 c = rw c.in-34.is c.is_under.ensures

pub returns-in-63 : goal.returns-in-63
unfolding code_allowed
returns-in-63 c = rw c.in-63.is c.is_under-in-63.ensures

pub returns-in_default : goal.returns-in_default
unfolding code_allowed is_extended
returns-in_default c = search cases
