-- `packet::concluded` meets its contract.
use mathlib.Core.Path.{sym, ap, ◌∙◌}
use native.Mathlib.Omega.{arith}
use Rattle.number.proofs.Laws.{bytes_lent}
use Rattle.tagset.proofs.Laws.{Words}
use Rattle.refusal.proofs.Answers.{handed_on}
use Rattle.packet.specs.code.Concluded.{closed_by}
use Rattle.packet.proofs.Concluding.{last_inside, places_inside, right_by, clean_right}
use Rattle.packet.proofs.concluded.Goals as goal

pub closed-requires : goal.closed-requires
closed-requires c =
    let words : Words c.args.known = record { low64 = omega arith; high64 = omega arith } in
    rw c.header_at.ensures (last_inside _ words _ (bytes_lent c.type_inv.packet) _ _ c.requires)

pub returns-in_err-closed : goal.returns-in_err-closed
returns-in_err-closed c =
    let words : Words c.args.known = record { low64 = omega arith; high64 = omega arith } in
    let ended = sym (c.in_err-closed.ensures ∙ ap (closed_by _ _) c.header_at.ensures) in
    handed_on _ _ c.from_residual.ensures.1 (λ s q. q) ∙ sym (right_by _ words _ (bytes_lent c.type_inv.packet) _ _ c.requires ∙ rw ended)

pub is_clean-requires : goal.is_clean-requires
is_clean-requires c =
    let words : Words c.args.known = record { low64 = omega arith; high64 = omega arith } in
    places_inside _ words _ (bytes_lent c.type_inv.packet) _ _ c.requires

pub returns-then-is_clean : goal.returns-then-is_clean
returns-then-is_clean c =
    let words : Words c.args.known = record { low64 = omega arith; high64 = omega arith } in
    let bytes = bytes_lent c.type_inv.packet in
    let ended = sym (c.in_ok-closed.ensures ∙ ap (closed_by _ _) c.header_at.ensures) in
    sym (right_by _ words _ bytes _ _ c.requires
    ∙ rw ended (clean_right _ words _ bytes _ _ c.requires (sym (rw c.as_set.ensures at c.is_clean.ensures) ∙ c.if-is_clean.true)))

pub returns : goal.returns
returns c =
    let words : Words c.args.known = record { low64 = omega arith; high64 = omega arith } in
    let ended = sym (c.in_ok-closed.ensures ∙ ap (closed_by _ _) c.header_at.ensures) in
    c.judged.ensures ∙ sym (right_by _ words _ (bytes_lent c.type_inv.packet) _ _ c.requires ∙ rw ended)
