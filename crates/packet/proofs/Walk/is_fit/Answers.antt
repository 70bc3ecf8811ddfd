-- `packet::Walk::is_fit` meets its contract.
use Prim.Native.Nat.{◌+◌, ◌-◌}
use native.Mathlib.Omega.{arith}
use mathlib.Core.Path.{◌≡◌, sym, ap, ◌∙◌}
use Rattle.catalogue.specs.Extended.{is_extended, in_reach}
use Rattle.packet.proofs.Glancing.{empty_fits, plain_fits, long_fits, height_fits}
use Rattle.packet.proofs.Walk.is_fit.Goals as goal

pub returns-then-size-eq0 : goal.returns-then-size-eq0
returns-then-size-eq0 c = empty_fits _ c.args.item c.requires c.if-size-eq0.true

pub returns-then-is_extended : goal.returns-then-is_extended
returns-then-is_extended c =
    let i = c.args.item in
    let n : i.place + i.size - i.place ≡ i.size = omega arith in
    height_fits _ i c.requires _ (c.is_in_reach.ensures ∙ ap (in_reach i.size) (rw n at c.value.ensures))
    c.if-size-eq0.false c.args.self.now.bytes (sym (c.is_extended.ensures ∙ ap is_extended c.one_byte-tag.ensures) ∙ c.if-is_extended.true)

pub returns-then-long : goal.returns-then-long
returns-then-long c =
    long_fits _ c.args.item c.requires c.if-long.true (sym (c.is_extended.ensures ∙ ap is_extended c.one_byte-tag.ensures) ∙ c.if-is_extended.false)

pub returns : goal.returns
returns c =
    plain_fits _ c.args.item c.requires _
    (c.is_within.ensures ∙ rw (c.one_byte-tag.ensures, c.args.self.now.masks.now.of_the_catalogue)) (omega arith)
    (sym (c.is_extended.ensures ∙ ap is_extended c.one_byte-tag.ensures) ∙ c.if-is_extended.false)
