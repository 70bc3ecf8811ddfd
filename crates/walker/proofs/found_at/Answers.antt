-- `walker::found_at` meets its contract.
use Rattle.std.proofs.Common.{◌≡◌, ap, ◌∙◌, Option, Some, None}
use Rattle.std.specs.Option.{MatchOption, IsSomeAnd}
use Rattle.rows.specs.declared.Row.{Row}
use Rattle.walker.specs.declared.Standing.{Standing}
use Rattle.walker.specs.Steps.{row_seen, found_seen, found_at}
use Rattle.walker.proofs.found_at.Goals as goal

mapped : (o : Option Standing) (r : Option Row) → MatchOption o (r ≡ None) (λ s. IsSomeAnd r (λ x. x ≡ row_seen s)) → r ≡ found_seen o
mapped None r h = h
mapped (Some s) (Some x) h = ap Some h
mapped (Some s) None h = absurd h

pub returns : goal.returns
unfolding found_at
returns c = mapped _ _ c.map.ensures.cases ∙ ap found_seen c.seen_at.ensures
