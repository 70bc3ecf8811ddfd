-- `reader::header_at` meets its contract.
use native.Mathlib.Omega.{arith}
use Rattle.number.proofs.Laws.{bytes_lent}
use Rattle.reader.proofs.Headers.{two-bytes, header_short}
use Rattle.reader.proofs.header_at.Goals as goal

pub overflow_add-after : goal.overflow_add-after
overflow_add-after c = omega (arith, two-bytes _ (bytes_lent c.type_inv.packet) _ c.requires, c.well_formed)

pub bounds-packet-at : goal.bounds-packet-at
bounds-packet-at c = omega (arith, two-bytes _ (bytes_lent c.type_inv.packet) _ c.requires)

pub bounds-packet-after : goal.bounds-packet-after
bounds-packet-after c = omega (arith, two-bytes _ (bytes_lent c.type_inv.packet) _ c.requires)

pub bounds-packet-at-2 : goal.bounds-packet-at-2
bounds-packet-at-2 c = omega (arith, two-bytes _ (bytes_lent c.type_inv.packet) _ c.requires)

pub overflow_add-result : goal.overflow_add-result
overflow_add-result c = omega (arith, two-bytes _ (bytes_lent c.type_inv.packet) _ c.requires, c.well_formed)

pub bounds-packet-after-2 : goal.bounds-packet-after-2
bounds-packet-after-2 c = omega (arith, two-bytes _ (bytes_lent c.type_inv.packet) _ c.requires)

pub returns : goal.returns
returns c = header_short _ (bytes_lent c.type_inv.packet) _ c.requires c.if-packet-at-ge128.false c.from.ensures c.from-2.ensures
