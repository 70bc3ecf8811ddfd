-- `walker::seen_at` meets its contract.
use mathlib.Core.Path.{refl, ap, ◌∙◌}
use Rattle.number.proofs.Laws.{bytes_lent}
use Rattle.walker.proofs.Headers.{seen_said, item_inside}
use Rattle.walker.proofs.seen_at.Goals as goal
use Rattle.std.specs.Prelude.{Some}

pub standing_in-requires : goal.standing_in-requires
standing_in-requires c = item_inside _ _ _ _ c.item_at.ensures c.in-Ok.is (bytes_lent c.type_inv.packet) _ refl

pub returns-in-Ok : goal.returns-in-Ok
returns-in-Ok c = ap Some c.standing_in.ensures ∙ seen_said _ _ _ _ c.item_at.ensures c.in-Ok.is _

pub returns-in-Err : goal.returns-in-Err
returns-in-Err c = seen_said _ _ _ _ c.item_at.ensures c.in-Err.is _
