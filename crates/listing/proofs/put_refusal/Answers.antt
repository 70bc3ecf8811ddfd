-- `listing::put_refusal` meets its contract.
use Rattle.base.proofs.Putting.{room_first, room_after, wrote_then}
use Rattle.listing.proofs.Texts.{wrote_left}
use borrow.Author.Rules.{rules}
use Rattle.listing.specs.Lines.{refused_word, refused_line}
use Rattle.listing.proofs.put_refusal.Goals as goal

pub word-requires : goal.word-requires
unfolding refused_line refused_word
word-requires c = room_first _ c.requires

pub field-requires : goal.field-requires
unfolding refused_line refused_word
field-requires c = room_first _ (room_after c.word.ensures.wrote c.requires)

pub field-requires-2 : goal.field-requires-2
unfolding refused_line refused_word
field-requires-2 c = room_first _ (room_after c.field.ensures.wrote (room_after c.word.ensures.wrote c.requires))

pub decimal-requires : goal.decimal-requires
unfolding refused_line refused_word
decimal-requires c =
    room_first _ (room_after c.field-2.ensures.wrote (room_after c.field.ensures.wrote (room_after c.word.ensures.wrote c.requires)))

pub word-requires-2 : goal.word-requires-2
unfolding refused_line refused_word
word-requires-2 c =
    room_after c.decimal.ensures.wrote
    (room_after c.field-2.ensures.wrote (room_after c.field.ensures.wrote (room_after c.word.ensures.wrote c.requires)))

pub returns : goal.returns
unfolding refused_line refused_word
returns c =
    let w =
    wrote_then c.word.ensures.wrote
    (wrote_then c.field.ensures.wrote
    (wrote_then c.field-2.ensures.wrote (wrote_then c.decimal.ensures.wrote c.word-2.ensures.wrote))) in
    wrote_left (search rules) w
