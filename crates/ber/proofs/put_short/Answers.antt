-- `ber::put_short` meets its contract.
use native.Mathlib.Omega.{arith}
use mathlib.Core.Path.{refl}
use Rattle.base.proofs.Putting.{put_one, no_room, all_put}
use Rattle.ber.proofs.put_short.Goals as goal

pub returns-then-at-out : goal.returns-then-at-out
returns-then-at-out c = all_put _ _ 1 _ refl (omega arith) _ (put_one _ _ _ c.if-at-out.true)

pub returns : goal.returns
returns c = no_room _ _ 1 _ refl (omega arith)
