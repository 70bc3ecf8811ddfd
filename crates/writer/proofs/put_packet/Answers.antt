-- `writer::put_packet` meets its contract.
use mathlib.Core.Path.{sym, ◌∙◌}
use native.Mathlib.Omega.{arith}
use lib.Seq.{length-take-le}
use Rattle.writer.proofs.Whole.{sizes, head_room, items_room, sum_room, packet_put}
use Rattle.writer.proofs.put_packet.Goals as goal

pub put_head-from-requires : goal.put_head-from-requires
put_head-from-requires c = let r = c.requires in head_room _ r.whole r.part r.fits

pub put_rows-requires : goal.put_rows-requires
put_rows-requires c =
    let r = c.requires in
    (r.rows, items_room _ r.whole r.part r.fits c.put_head-from.ensures)

pub overflow_sub-end : goal.overflow_sub-end
overflow_sub-end c =
    let r = c.requires in
    omega (arith, sizes _ r.whole r.part)

pub slice_bounds-checksum-end-2 : goal.slice_bounds-checksum-end-2
slice_bounds-checksum-end-2 c =
    let r = c.requires in
    let head = c.put_head-from.ensures in
    let two = sum_room _ r.whole r.part r.fits head c.put_rows.ensures in
    sym (length-take-le _ _ (omega arith))

pub put_number-requires : goal.put_number-requires
put_number-requires c =
    let r = c.requires in
    let head = c.put_head-from.ensures in
    sum_room _ r.whole r.part r.fits head c.put_rows.ensures

pub returns : goal.returns
returns c =
    let r = c.requires in
    let head = c.put_head-from.ensures in
    let items = c.put_rows.ensures in
    packet_put _ r.whole r.part r.fits head items (c.from-sum.ensures ∙ c.checksum.ensures) c.put_number.ensures
