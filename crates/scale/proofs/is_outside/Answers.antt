-- `scale::is_outside` meets its contract.
use borrow.Author.Rules.{rules}
use mir.Syntax.{w64}
use mir.Val.{SFits}
use mir.Facts.{to_z-of_z}
use Rattle.scale.proofs.is_outside.Goals as goal

pub returns-then-value-low : goal.returns-then-value-low
returns-then-value-low c =
    let value : SFits w64 c.args.value = search rules in
    let low : SFits w64 c.args.low = search rules in
    rw (rw (to_z-of_z value, to_z-of_z low) at c.if-value-low.true) c.if-value-low.true

pub returns-else-value-low : goal.returns-else-value-low
returns-else-value-low c =
    let value : SFits w64 c.args.value = search rules in
    let low : SFits w64 c.args.low = search rules in
    let high : SFits w64 c.args.high = search rules in
    rw (to_z-of_z value, to_z-of_z high, rw (to_z-of_z value, to_z-of_z low) at c.if-value-low.false)
