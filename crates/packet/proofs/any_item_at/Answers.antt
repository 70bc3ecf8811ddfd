-- `packet::any_item_at` meets its contract: what the tag and the length read as decides the step.
use mathlib.Core.Path.{sym, ◌∙◌}
use native.Mathlib.Omega.{arith}
use Rattle.number.proofs.Laws.{bytes_lent}
use Rattle.packet.proofs.Steps.{no-tag, tag_inside, no-length, length_inside, past_the_end, one_item}
use Rattle.packet.proofs.any_item_at.Goals as goal

pub returns-in_default : goal.returns-in_default
returns-in_default c = c.refused.ensures ∙ sym (no-tag _ _ (sym c.in_default.ensures))

pub overflow_add-after : goal.overflow_add-after
overflow_add-after c =
    let tag = tag_inside c.args.packet.now c.args.at _ _ (sym c.in-Some.ensures) (bytes_lent c.type_inv.packet) in
    omega (arith, tag.1)

pub returns-in_default-length_at : goal.returns-in_default-length_at
returns-in_default-length_at c = c.refused-in_default-length_at.ensures ∙ sym (no-length _ _ _ _ (sym c.in-Some.ensures) (sym c.in_default-length_at.ensures))

pub overflow_add-place : goal.overflow_add-place
overflow_add-place c =
    let length = length_inside _ _ _ _ (sym c.in-Some.ensures) _ _ (sym c.in-Some-length_at.ensures) (bytes_lent c.type_inv.packet) in
    omega (arith, length.1)

pub overflow_sub-packet : goal.overflow_sub-packet
overflow_sub-packet c =
    (length_inside _ _ _ _ (sym c.in-Some.ensures) _ _ (sym c.in-Some-length_at.ensures) (bytes_lent c.type_inv.packet)).1

pub returns-then-packet-place : goal.returns-then-packet-place
returns-then-packet-place c =
    let length = length_inside _ _ _ _ (sym c.in-Some.ensures) _ _ (sym c.in-Some-length_at.ensures) (bytes_lent c.type_inv.packet) in
    c.refused-then-packet-place.ensures ∙ sym (past_the_end _ _ _ _ (sym c.in-Some.ensures) _ _ (sym c.in-Some-length_at.ensures) length.1 c.if-packet-place.true)

pub returns : goal.returns
returns c =
    let length = length_inside _ _ _ _ (sym c.in-Some.ensures) _ _ (sym c.in-Some-length_at.ensures) (bytes_lent c.type_inv.packet) in
    sym (one_item _ _ _ _ (sym c.in-Some.ensures) _ _ (sym c.in-Some-length_at.ensures) length.1 c.if-packet-place.false)
