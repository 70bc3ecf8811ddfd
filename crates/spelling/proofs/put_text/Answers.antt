-- `spelling::put_text` meets its contract.
use mathlib.Core.Path.{refl, ap, ◌∙◌}
use native.Mathlib.Omega.{arith}
use lib.Seq.{take-length}
use Rattle.base.specs.Putting.{put_into}
use Rattle.base.proofs.Putting.{no_room, all_put, copy_start, copy_next, copy_done}
use Rattle.spelling.proofs.put_text.Goals as goal

pub returns-then-not-has_room : goal.returns-then-not-has_room
returns-then-not-has_room c = no_room _ _ _ _ refl (c.has_room.ensures.1 c.if-not-has_room.true)

pub loop-i-init : goal.loop-i-init
loop-i-init c = copy_start (c.has_room.ensures.0 c.if-not-has_room.false) (omega arith)

pub loop-i-preserved : goal.loop-i-preserved
loop-i-preserved c = copy_next c.loop-i.invariant _ refl c.loop-i-test.true

pub returns : goal.returns
returns c =
    let all = c.loop-i.invariant in
    all_put _ _ _ _ refl all.room _ (copy_done all c.loop-i-test.false ∙ ap (put_into _ _) (take-length _))
