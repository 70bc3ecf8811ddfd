-- `listing::Output::decimal` meets its contract.
use borrow.Author.Rules.{rules}
use native.Mathlib.Omega.{arith}
use Rattle.base.proofs.Putting.{puts_wrote}
use Rattle.listing.proofs.Output.decimal.Goals as goal

pub overflow_add-self : goal.overflow_add-self
overflow_add-self c = omega (arith, (puts_wrote c.requires c.put_decimal.ensures).inside, c.well_formed)

pub returns : goal.returns
returns c = record { same = search rules; wrote = puts_wrote c.requires c.put_decimal.ensures }
