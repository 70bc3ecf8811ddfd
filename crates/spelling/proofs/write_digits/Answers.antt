-- `spelling::write_digits` meets its contract.
use native.Mathlib.Omega.{arith}
use borrow.Author.Rules.{rules}
use Rattle.spelling.proofs.Putting.{digits_fit, digits_wrote}
use Rattle.spelling.proofs.write_digits.Goals as goal

pub overflow_add-at : goal.overflow_add-at
overflow_add-at g c = let fits = digits_fit g.row.K c.args.n c.requires in omega arith

pub slice_bounds-fill-end : goal.slice_bounds-fill-end
slice_bounds-fill-end g c = let fits = digits_fit g.row.K c.args.n c.requires in search rules

pub returns : goal.returns
returns g c = digits_wrote g.row.K c.args.n c.requires c.fill.ensures
