use Prim.Native.Nat.{◌+◌, ◌*◌, ◌≤◌}
use mathlib.Core.Path.{◌≡◌}
use lib.ListN.{length, take}
use Rattle.spelling.specs.Spelling.{hex}
use Rattle.base.specs.Putting.{put_into}
use Rattle.spelling.proofs.put_hex.Given as goal

abbrev pub invariant-loop-i : goal.invariant-loop-i
invariant-loop-i l = (l.out ≡ put_into l.initial.out l.at (hex (take l.i l.part))) × (l.at + 2 * length l.part ≤ length l.initial.out)
