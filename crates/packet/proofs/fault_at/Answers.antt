-- `packet::fault_at` meets its contract.
use Prim.Native.Nat.{◌+◌, ◌-◌}
use mathlib.Core.Path.{◌≡◌, sym, ap, ◌∙◌}
use native.Mathlib.Omega.{arith}
use Rattle.number.proofs.Laws.{bytes_lent}
use Rattle.tagset.specs.Sets.{holds}
use Rattle.packet.specs.Judge.{fault_by, looked}
use Rattle.packet.specs.code.Headers.{item_by}
use Rattle.packet.proofs.Faults.{fault_unknown, fault_known, fault_free, fault_told}
use Rattle.packet.proofs.fault_at.Goals as goal

pub returns-then-limits_codes : goal.returns-then-limits_codes
returns-then-limits_codes c =
    let a = c.args in
    let size : a.item.place + a.item.size - a.item.place ≡ a.item.size = omega arith in
    fault_told _ _ _ c.fault_of.ensures c.of-shape.ensures c.has-twice.ensures
    ∙ (ap (λ x. fault_by (looked a.item.tag a.item.size x (holds a.seen a.item.tag))) (rw size at c.value-code.ensures)
    ∙ fault_known _ _ _ a.item (bytes_lent c.type_inv.packet) c.requires (sym c.has.ensures ∙ c.if-has.true))

pub returns-then-has : goal.returns-then-has
returns-then-has c =
    fault_told _ _ 0 c.fault_of-then-has.ensures c.of-shape.ensures c.has-twice.ensures
    ∙ fault_free _ _ _ c.args.item c.requires (sym c.has.ensures ∙ c.if-has.true) (sym c.limits_codes.ensures ∙ c.if-limits_codes.false)

pub returns : goal.returns
returns c = fault_unknown _ _ (item_by c.args.packet.now c.args.item) (sym c.has.ensures ∙ c.if-has.false)
