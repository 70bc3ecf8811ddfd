-- `listing::Line::put` meets its contract.
use borrow.Author.Rules.{rules}
use mathlib.Core.Path.{ap}
use Rattle.base.proofs.Putting.{room_of, room_first, room_after, wrote_as, wrote_then}
use Rattle.listing.specs.Lines.{field, line_of}
use Rattle.listing.proofs.Line.put.Goals as goal

pub field-requires : goal.field-requires
unfolding line_of
field-requires c = room_of (ap field c.place.ensures) (room_first _ c.requires)

pub field-requires-2 : goal.field-requires-2
unfolding line_of
field-requires-2 c = room_first _ (room_after (wrote_as (ap field c.place.ensures) c.field.ensures.wrote) c.requires)

pub put_content-requires : goal.put_content-requires
unfolding line_of
put_content-requires c =
    room_first _ (room_after c.field-2.ensures.wrote (room_after (wrote_as (ap field c.place.ensures) c.field.ensures.wrote) c.requires))

pub word-requires : goal.word-requires
unfolding line_of
word-requires c =
    room_after c.put_content.ensures.wrote
    (room_after c.field-2.ensures.wrote (room_after (wrote_as (ap field c.place.ensures) c.field.ensures.wrote) c.requires))

pub returns : goal.returns
unfolding line_of
returns c = record {
  same = search rules;
  wrote = wrote_then (wrote_as (ap field c.place.ensures) c.field.ensures.wrote)
      (wrote_then c.field-2.ensures.wrote (wrote_then c.put_content.ensures.wrote c.word.ensures.wrote));
}
