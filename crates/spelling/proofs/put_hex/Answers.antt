-- `spelling::put_hex` meets its contract.
use Prim.Native.Nat.{◌*◌}
use mathlib.Core.Path.{sym}
use native.Mathlib.Omega.{arith}
use lib.ListN.{length}
use lib.Seq.{take_all}
use Rattle.spelling.specs.Spelling.{hex}
use Rattle.spelling.proofs.Laws.{hex_length}
use Rattle.spelling.proofs.Putting.{hex_put}
use Rattle.base.proofs.Putting.{no_room, all_put, put_nothing}
use Rattle.spelling.proofs.put_hex.Goals as goal

pub returns-then-out-part : goal.returns-then-out-part
returns-then-out-part c = no_room _ _ (2 * length c.args.part.now) _ (hex_length _) (omega arith)

pub returns-then-not-has_room : goal.returns-then-not-has_room
returns-then-not-has_room c = no_room _ _ _ _ (hex_length _) (c.has_room.ensures.1 c.if-not-has_room.true)

pub loop-i-init : goal.loop-i-init
unfolding hex
loop-i-init c =
    let fits = c.has_room.ensures.0 c.if-not-has_room.false in
    (sym (put_nothing _ _ (omega arith)), fits)

pub loop-i-preserved : goal.loop-i-preserved
loop-i-preserved c =
    let l = c.loop-i in
    let less = c.loop-i-test.true in
    (hex_put _ _ _ _ _ less _ _ c.hex_digit.ensures c.hex_digit-in-loop-i.ensures l.invariant.1 l.invariant.0, l.invariant.1)

pub returns : goal.returns
returns c =
    let l = c.loop-i in
    let part = c.args.part.now in
    all_put _ _ _ _ (hex_length part) l.invariant.1 _ (rw (take_all l.i part (omega arith)) at l.invariant.0)
