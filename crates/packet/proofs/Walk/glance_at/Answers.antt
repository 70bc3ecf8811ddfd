-- `packet::Walk::glance_at` meets its contract.
use Prim.Native.Nat.{ℕ, ◌+◌}
use mathlib.Core.Path.{ap, ◌∙◌}
use lib.ListN.{get_or}
use Rattle.catalogue.specs.code.Column.{within}
use Rattle.packet.proofs.Glancing.{below_tag, mask_plain, plain_tag, glance_short}
use Rattle.packet.proofs.Walk.glance_at.Goals as goal

pub returns : goal.returns
returns c =
    let p = c.args.self.now.packet.now in
    let tag : ℕ = get_or p c.args.at 0 in
    let size : ℕ = get_or p (c.args.at + 1) 0 in
    let m = mask_plain p c.args.at c.mask_at-mask.result c.mask_at-mask.ensures c.if-mask-ge128.false in
    let t = plain_tag tag (below_tag tag size m.0) (rw m.1 at c.if-mask-ge128.false) in
    glance_short _ _ c.requires t.0 m.0 _ (c.is_within.ensures ∙ ap (λ x. within x size) m.1) t.1 c.if-self-past.false
