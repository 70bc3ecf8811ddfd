-- `packet::Walk::mask_at` meets its contract.
use Prim.Native.Nat.{◌+◌}
use mathlib.Core.Path.{sym, ◌∙◌}
use lib.ListN.{get_or}
use Rattle.packet.proofs.Glancing.{below_tag}
use Rattle.packet.proofs.Walk.mask_at.Goals as goal

pub bounds-self-tag : goal.bounds-self-tag
bounds-self-tag c =
    let p = c.args.self.now.packet.now in
    below_tag (get_or p c.args.at 0) (get_or p (c.args.at + 1) 0) (sym c.is_close.ensures ∙ c.if-is_close.false)
