-- What the answer of a reading says. A broken form has no number of its own: it is 7 for a tag, 5 for the packet's length
-- and 8 for an item's, with the place and the tag of whose it is, which the reader gives.
use Rattle.std.specs.Prelude.{Option, Some, None}
use Rattle.ber.specs.Read.{Read, got, broken}
use Rattle.ber.specs.declared.Field.{Field}

abbrev pub seen : Option Field → Read
seen (Some f) = got f.value f.size
seen None = broken
