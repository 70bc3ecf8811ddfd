-- `listing::Line::put_content` meets its contract.
use borrow.Author.Rules.{rules}
use native.Mathlib.Omega.{arith}
use Rattle.base.proofs.Putting.{room_of, room_first, room_after, wrote_as, wrote_then}
use mathlib.Core.Path.{ap}
use Rattle.spelling.specs.Spelling.{hex}
use Rattle.listing.specs.Lines.{number_word, mark_word, text_word, carried_word, withdrawn_word}
use Rattle.listing.proofs.Texts.{number_content, mark_content, text_content, withdrawn_content, carried_content}
use Rattle.listing.proofs.Line.put_content.Goals as goal

pub word-requires : goal.word-requires
unfolding number_word
word-requires c = room_first _ (room_of (number_content _ _ c.in-1.is) c.requires)

pub put_number-requires : goal.put_number-requires
unfolding number_word
put_number-requires c = room_after c.word.ensures.wrote (room_of (number_content _ _ c.in-1.is) c.requires)

pub returns-in-1 : goal.returns-in-1
unfolding number_word
returns-in-1 c = record { same = search rules; wrote = wrote_as (number_content _ _ c.in-1.is) (wrote_then c.word.ensures.wrote c.put_number.ensures.wrote) }

pub word-requires-in-2 : goal.word-requires-in-2
unfolding mark_word
word-requires-in-2 c = room_of (mark_content _ _ c.in-2.is) c.requires

pub returns-in-2 : goal.returns-in-2
unfolding mark_word
returns-in-2 c = record { same = search rules; wrote = wrote_as (mark_content _ _ c.in-2.is) c.word-in-2.ensures.wrote }

pub word-requires-in-3 : goal.word-requires-in-3
unfolding text_word
word-requires-in-3 c = room_first _ (room_of (text_content _ _ c.in-3.is) c.requires)

pub hex-requires : goal.hex-requires
unfolding text_word
hex-requires c =
    room_of (ap hex c.value.ensures) (room_after c.word-in-3.ensures.wrote (room_of (text_content _ _ c.in-3.is) c.requires))

pub returns-in-3 : goal.returns-in-3
unfolding text_word
returns-in-3 c = record {
  same = search rules;
  wrote = wrote_as (text_content _ _ c.in-3.is)
      (wrote_then c.word-in-3.ensures.wrote (wrote_as (ap hex c.value.ensures) c.hex.ensures.wrote));
}

pub word-requires-in-5 : goal.word-requires-in-5
unfolding withdrawn_word
word-requires-in-5 c = room_of (withdrawn_content _ _ c.in-5.is) c.requires

pub returns-in-5 : goal.returns-in-5
unfolding withdrawn_word
returns-in-5 c = record { same = search rules; wrote = wrote_as (withdrawn_content _ _ c.in-5.is) c.word-in-5.ensures.wrote }

pub word-requires-in_default : goal.word-requires-in_default
unfolding carried_word
word-requires-in_default c =
    let e = carried_content c.args.self.now.packet.now c.args.self.now.row (omega arith) (omega arith) (omega arith) (omega arith) in
    room_first _ (room_of e c.requires)

pub hex-requires-in_default : goal.hex-requires-in_default
unfolding carried_word
hex-requires-in_default c =
    let e = carried_content c.args.self.now.packet.now c.args.self.now.row (omega arith) (omega arith) (omega arith) (omega arith) in
    room_of (ap hex c.value-in_default.ensures) (room_after c.word-in_default.ensures.wrote (room_of e c.requires))

pub returns-in_default : goal.returns-in_default
unfolding carried_word
returns-in_default c =
    let e = carried_content c.args.self.now.packet.now c.args.self.now.row (omega arith) (omega arith) (omega arith) (omega arith) in
    let w = wrote_then c.word-in_default.ensures.wrote (wrote_as (ap hex c.value-in_default.ensures) c.hex-in_default.ensures.wrote) in
    record { same = search rules; wrote = wrote_as e w }
