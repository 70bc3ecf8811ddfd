-- `items::sign_of` meets its contract.
use borrow.Author.Rules.{rules}
use lib.IntN.{◌+ℤ◌}
use mir.Syntax.{w64}
use mir.Val.{SFits}
use mir.Facts.{to_z-of_z}
use Rattle.items.proofs.Signs.{zero_bits, other_bits}
use Rattle.items.proofs.sign_of.Goals as goal

pub returns-then-middle-eq0 : goal.returns-then-middle-eq0
returns-then-middle-eq0 c =
    let row = c.args.row in
    let low : SFits w64 row.3 = search rules in
    let high : SFits w64 row.4 = search rules in
    rw (c.if-row.true, zero_bits _ c.requires (rw (to_z-of_z low, to_z-of_z high) at c.if-middle-eq0.true))

pub returns-then-row : goal.returns-then-row
returns-then-row c =
    let row = c.args.row in
    let low : SFits w64 row.3 = search rules in
    let high : SFits w64 row.4 = search rules in
    rw (c.if-row.true, other_bits (row.3 +ℤ row.4) (rw (to_z-of_z low, to_z-of_z high) at c.if-middle-eq0.false))
