-- `packet::has_key` meets its contract.
use borrow.Author.Tests.{ne_eqb}
use Rattle.number.proofs.Laws.{bytes_lent}
use Rattle.packet.proofs.Keys.{no_key, by_halves, other_front}
use Rattle.packet.proofs.has_key.Goals as goal

pub returns-then-packet-lt16 : goal.returns-then-packet-lt16
returns-then-packet-lt16 c = no_key _ c.if-packet-lt16.true

pub returns-then-value-eq436333716274086145 : goal.returns-then-value-eq436333716274086145
returns-then-value-eq436333716274086145 c =
    by_halves _ (bytes_lent c.type_inv.packet) c.if-packet-lt16.false _ _
    c.value.ensures c.value-then-value-eq436333716274086145.ensures c.if-value-eq436333716274086145.true

pub returns-else-value-eq436333716274086145 : goal.returns-else-value-eq436333716274086145
returns-else-value-eq436333716274086145 c =
    rw (ne_eqb _ _ c.if-value-eq436333716274086145.false)
    (other_front _ (bytes_lent c.type_inv.packet) c.if-packet-lt16.false _ c.value.ensures c.if-value-eq436333716274086145.false)
