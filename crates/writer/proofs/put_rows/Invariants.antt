use Prim.Native.Nat.{◌+◌, ◌-◌}
use lib.ListN.{length}
use Rattle.base.specs.Putting.{put_into}
use Rattle.packet.specs.Rows.{rows_in}
use Rattle.writer.specs.code.Putting.{table_bytes}
use Rattle.writer.proofs.Rest.{Left}
use Rattle.writer.proofs.put_rows.Given as goal

abbrev pub invariant-loop-n : goal.invariant-loop-n
invariant-loop-n l =
    Left l.buffer (rows_in l.n (l.count - l.n) l.words) l.out l.at
    (l.from + length (table_bytes l.buffer l.count l.words)) (put_into l.initial.out l.from (table_bytes l.buffer l.count l.words))
