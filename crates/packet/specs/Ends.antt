-- Document 01, Packet: "The first item is tag 2, the last is tag 1 of length 2": 9 and 10, of the items of a packet and of the rows of
-- a table alike.
use Rattle.std.specs.Prelude.{cond, ◌&&◌, eqb}
use Rattle.refusal.specs.Answer.{Answer, given, refused}
use Rattle.packet.specs.declared.Ends.{Ends}

-- by the tags of the first and the last, and the last one's length; where there is none the first one's tag is 0
unfoldable pub right_ends : Ends → Answer (Unit {0})
right_ends e =
    cond (eqb e.first 2)
    (cond (eqb e.last 1 && eqb e.size 2) (given tt) (refused 10 e.end e.last))
    (refused 9 e.start e.first)
