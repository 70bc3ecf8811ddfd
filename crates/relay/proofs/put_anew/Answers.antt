-- `relay::put_anew` meets its contract.
use native.Mathlib.Omega.{arith}
use mathlib.Core.Path.{refl, sym, ◌∙◌}
use lib.Seq.{length-take-le}
use Rattle.number.proofs.Laws.{bytes_lent}
use Rattle.relay.proofs.Anew.{key_inside, sizes, head, items_fit, sum_fits, anew_put}
use Rattle.relay.proofs.put_anew.Goals as goal

pub slice_bounds-put_text-end : goal.slice_bounds-put_text-end
slice_bounds-put_text-end c =
    sym (length-take-le 16 c.args.packet.now (key_inside c.requires.walks (bytes_lent c.type_inv.packet)))

pub overflow_add-start : goal.overflow_add-start
overflow_add-start c =
    omega (arith, (head c.requires (bytes_lent c.type_inv.packet) refl c.put_text-start.ensures c.put_length-start.ensures).inside, c.well_formed)

pub put_items-requires : goal.put_items-requires
put_items-requires c =
    (c.requires.walks, items_fit c.requires (bytes_lent c.type_inv.packet) refl c.put_text-start.ensures c.put_length-start.ensures)

pub overflow_sub-end : goal.overflow_sub-end
overflow_sub-end c = omega (arith, sizes c.requires)

pub slice_bounds-checksum-end-2 : goal.slice_bounds-checksum-end-2
slice_bounds-checksum-end-2 c =
    let two =
    sum_fits c.requires (bytes_lent c.type_inv.packet) refl c.put_text-start.ensures c.put_length-start.ensures c.put_items.ensures in
    sym (length-take-le _ _ (omega arith))

pub returns : goal.returns
returns c =
    anew_put c.requires (bytes_lent c.type_inv.packet) refl c.put_text-start.ensures c.put_length-start.ensures c.put_items.ensures
    (c.from-sum.ensures ∙ c.checksum.ensures) c.put.ensures
