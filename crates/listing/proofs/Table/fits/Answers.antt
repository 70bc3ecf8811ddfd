-- `listing::Table::fits` meets its contract.
use mathlib.Core.Path.{sym}
use native.Mathlib.Omega.{arith}
use Rattle.listing.proofs.Answers.{rows_long}
use Rattle.listing.proofs.Rows.{lines_few, lines_within}
use Rattle.listing.proofs.Table.fits.Goals as goal

pub overflow_mul-most : goal.overflow_mul-most
overflow_mul-most c = omega (arith, lines_few _ _ _ c.args.self.now.listable)

pub overflow_add-most : goal.overflow_add-most
overflow_add-most c = omega (arith, lines_few _ _ _ c.args.self.now.listable)

pub overflow_add-most-2 : goal.overflow_add-most-2
overflow_add-most-2 c = let l = c.args.self.now.listable in omega (arith, lines_few _ _ _ l, l.small)

pub returns-then-most-room : goal.returns-then-most-room
returns-then-most-room c = sym (lines_within _ _ _ c.args.self.now.listable _ c.if-most-room.true)

pub returns : goal.returns
returns c = rw (rows_long _ _ c.size.ensures)
