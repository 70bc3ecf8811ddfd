-- What the answers of this crate's functions say, in document 01's terms: the values given, or the refusal's number, place and tag.
use Rattle.std.specs.Prelude.{ℕ, ◌+◌, List, drop, Result, Ok, Err}
use Rattle.refusal.specs.Numbers.{number}
use Rattle.refusal.specs.Answer.{Answer, given, refused}
use Rattle.packet.specs.Pieces.{no_tag, no_length, one, read_item}
use Rattle.packet.specs.Pieces as pieces
use Rattle.packet.specs.Judge as judge
use Rattle.packet.specs.declared.Header.{Header}
use Rattle.refusal.specs.declared.Reason.{Reason}

-- the header of the item that begins at a place
abbrev pub header_by : ℕ → pieces.Step → Answer Header
header_by at no_tag = refused 7 at 0
header_by at (no_length t) = refused 8 at t
header_by at (one t h n) = given (record { tag = t; start = at; place = at + h; size = n })

unfoldable pub header_at : List ℕ → ℕ → Answer Header
header_at p at = header_by at (read_item (drop at p))

abbrev pub fault_said : Result (Unit {0}) Reason → judge.Fault
fault_said (Ok tt) = judge.clean
fault_said (Err r) = judge.wrong (number r)
