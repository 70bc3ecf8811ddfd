-- `listing::Line::put_number` meets its contract.
use borrow.Author.Rules.{rules}
use Rattle.base.proofs.Putting.{room_of, wrote_as}
use Rattle.listing.proofs.Texts.{whole_said}
use Rattle.listing.proofs.Line.put_number.Goals as goal

pub whole-requires : goal.whole-requires
whole-requires c = room_of (whole_said _ _ _ c.house.ensures (search rules) c.in-Ok.is) c.requires

pub returns-in-Ok : goal.returns-in-Ok
returns-in-Ok c = record { same = search rules; wrote = wrote_as (whole_said _ _ _ c.house.ensures (search rules) c.in-Ok.is) c.whole.ensures.wrote }
