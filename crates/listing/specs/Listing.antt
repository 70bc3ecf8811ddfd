-- The listing of a packet by a receiver that "knows the whole catalogue".
use Rattle.std.specs.Prelude.{ℕ, List, ◌++◌}
use Rattle.refusal.specs.Answer.{Answer, given, refused}
use Rattle.tagset.specs.Sets.{holds}
use Rattle.catalogue.specs.Rows.{all_tags}
use Rattle.packet.specs.Pieces.{Item}
use Rattle.packet.specs.Verdict.{received}
use Rattle.packet.specs.Rows.{rows_of}
use Rattle.listing.specs.Lines.{header, lines_of, refused_line}

abbrev pub text_by : List ℕ → Answer (List Item) → List ℕ
text_by p (given is) = header ++ lines_of p (rows_of (holds all_tags) is)
text_by p (refused n place t) = refused_line n place t

unfoldable pub listing_of : List ℕ → List ℕ
listing_of p = text_by p (received all_tags p)

-- no listing is longer: the header, 128 lines of 42 bytes, and two digits for each byte of the packet
abbrev pub largest : ℕ
largest = 21781
