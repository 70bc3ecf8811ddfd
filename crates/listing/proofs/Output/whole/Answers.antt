-- `listing::Output::whole` meets its contract.
use native.Mathlib.Omega.{arith}
use borrow.Author.Rules.{rules}
use mathlib.Core.Path.{ap}
use mir.Syntax.{w64}
use mir.Facts.{to_z-of_z}
use Rattle.base.proofs.Putting.{puts_as}
use Rattle.spelling.specs.Spelling.{whole}
use Rattle.listing.proofs.Output.whole.Goals as goal

pub overflow_add-self : goal.overflow_add-self
overflow_add-self c = omega (arith, (puts_as (ap whole (to_z-of_z {w = w64} (search rules))) c.requires c.put_whole.ensures).inside, c.well_formed)

pub returns : goal.returns
returns c = record { same = search rules; wrote = puts_as (ap whole (to_z-of_z {w = w64} (search rules))) c.requires c.put_whole.ensures }
