-- `writer::write_handed` meets its contract.
use Rattle.refusal.proofs.Answers.{handed_on}
use Rattle.writer.proofs.Answers.{rows_refused, fit, too_short, ready, packet_written}
use Rattle.writer.proofs.write_handed.Goals as goal

pub returns-in_err-packed : goal.returns-in_err-packed
returns-in_err-packed c = rows_refused _ c.in_err-packed.ensures (handed_on _ _ c.from_residual.ensures.1 (λ s q. q))

pub returns-then-short : goal.returns-then-short
returns-then-short c = too_short (fit c.in_ok-packed.ensures) c.if-short.true c.refused.ensures

pub put_packet-requires : goal.put_packet-requires
put_packet-requires c = ready (fit c.in_ok-packed.ensures) c.if-short.false

pub returns : goal.returns
returns c = packet_written (fit c.in_ok-packed.ensures) c.if-short.false c.put_packet.ensures
