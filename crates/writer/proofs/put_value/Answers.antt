-- `writer::put_value` meets its contract.
use Rattle.base.proofs.Putting.{wrote_as}
use mathlib.Core.Path.{sym}
use Rattle.writer.proofs.Values.{number_said, part_said}
use Rattle.writer.proofs.put_value.Goals as goal

pub copy-requires : goal.copy-requires
copy-requires c = (c.requires.1, c.requires.0.inside c.if-row-lt-TEXT.false)

pub returns-then-row-lt-TEXT : goal.returns-then-row-lt-TEXT
returns-then-row-lt-TEXT c = wrote_as (sym (number_said c.args.buffer.now c.args.row c.if-row-lt-TEXT.true)) c.put_number.ensures

pub returns-else-row-lt-TEXT : goal.returns-else-row-lt-TEXT
returns-else-row-lt-TEXT c = wrote_as (sym (part_said c.args.buffer.now c.args.row c.if-row-lt-TEXT.false)) c.copy.ensures
