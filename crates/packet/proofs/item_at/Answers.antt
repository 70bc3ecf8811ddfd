-- `packet::item_at` meets its contract.
use native.Mathlib.Omega.{arith}
use mathlib.Core.Path.{sym, ◌∙◌}
use Rattle.packet.proofs.Steps.{short_past_the_end, short_item}
use Rattle.packet.proofs.item_at.Goals as goal

pub returns-then-packet-place : goal.returns-then-packet-place
returns-then-packet-place c =
    c.refused.ensures ∙ sym (short_past_the_end _ _ _ _ c.from-tag.ensures c.from-length.ensures (omega arith) (omega arith)
    (sym c.is_short.ensures ∙ c.if-is_short.true) c.if-packet-place.true)

pub returns-then-is_short : goal.returns-then-is_short
returns-then-is_short c =
    sym (short_item _ _ _ _ c.from-tag.ensures c.from-length.ensures (omega arith) (omega arith)
    (sym c.is_short.ensures ∙ c.if-is_short.true) c.if-packet-place.false)
