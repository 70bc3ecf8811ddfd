-- `listing::Output::field` meets its contract.
use borrow.Author.Rules.{rules}
use Rattle.base.proofs.Putting.{room_first, room_after, wrote_then}
use Rattle.listing.specs.Lines.{field}
use Rattle.listing.proofs.Output.field.Goals as goal

pub decimal-requires : goal.decimal-requires
unfolding field
decimal-requires c = room_first _ c.requires

pub word-requires : goal.word-requires
unfolding field
word-requires c = room_after c.decimal.ensures.wrote c.requires

pub returns : goal.returns
unfolding field
returns c = record { same = search rules; wrote = wrote_then c.decimal.ensures.wrote c.word.ensures.wrote }
