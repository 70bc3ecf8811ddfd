-- `relay::send` meets its contract.
use native.Mathlib.Omega.{arith}
use mathlib.Core.Path.{sym, ◌∙◌}
use Rattle.base.proofs.Putting.{puts_as, front_room}
use Rattle.number.proofs.Laws.{bytes_lent}
use Rattle.laws.proofs.Shortest.{canonical_same}
use Rattle.relay.proofs.Steps.{too_short, all_sent}
use Rattle.relay.proofs.Items.{items_left, packet_size, small}
use Rattle.relay.proofs.send.Goals as goal

pub overflow_sub-items : goal.overflow_sub-items
overflow_sub-items c = omega (arith, c.requires.sizes)

pub overflow_sub-items-2 : goal.overflow_sub-items-2
overflow_sub-items-2 c = omega (arith, c.requires.sizes)

pub overflow_add-size : goal.overflow_add-size
overflow_add-size c =
    omega (arith, packet_size _ (items_left c.requires) c.length_size.ensures, small _ _ c.requires.walks (bytes_lent c.type_inv.packet))

pub overflow_add-size-2 : goal.overflow_add-size-2
overflow_add-size-2 c =
    omega (arith, packet_size _ (items_left c.requires) c.length_size.ensures, small _ _ c.requires.walks (bytes_lent c.type_inv.packet))

pub returns-then-out-size : goal.returns-then-out-size
returns-then-out-size c = too_short (packet_size _ (items_left c.requires) c.length_size.ensures) c.if-out-size.true c.refused.ensures

pub put_anew-requires : goal.put_anew-requires
put_anew-requires c = record {
  walks = c.requires.walks;
  whole = packet_size _ (items_left c.requires) c.length_size.ensures;
  part = items_left c.requires;
  fits = c.if-out-size.false;
}

pub returns-then-size-packet : goal.returns-then-size-packet
returns-then-size-packet c =
    let long = packet_size _ (items_left c.requires) c.length_size.ensures in
    let same = canonical_same _ _ (bytes_lent c.type_inv.packet) c.requires.walks.found (sym long ∙ c.if-size-packet.true) in
    all_sent long (puts_as (sym same) (front_room long c.if-out-size.false) c.put_text.ensures)

pub returns-else-size-packet : goal.returns-else-size-packet
returns-else-size-packet c = all_sent (packet_size _ (items_left c.requires) c.length_size.ensures) c.put_anew.ensures
