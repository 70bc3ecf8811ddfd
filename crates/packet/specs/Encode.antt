-- The bytes that a list of pieces is written as: "Row order is kept, lengths take their shortest form, the checksum is
-- worked out afresh".
use Rattle.std.specs.Prelude.{ℕ, ◌+◌, ◌-◌, List, [], ◌∷◌, ◌++◌, length, take}
use Rattle.refusal.specs.Answer.{Answer, or_else}
use Rattle.number.specs.Stored.{bytes_of}
use Rattle.ber.specs.Written.{tag_bytes, length_bytes}
use Rattle.checksum.specs.Sum.{checksum_of}
use Rattle.packet.specs.Pieces.{Piece, Item, pieces}
use Rattle.packet.specs.Structure.{key, structure}

-- "tag, length, value"
unfoldable pub item_bytes : Piece → List ℕ
item_bytes c = tag_bytes c.tag ++ (length_bytes (length c.value) ++ c.value)

-- by how many bytes what stands before an item's value is longer than there, and all items together: "A long form that could be shorter
-- is accepted."
abbrev pub longer_by : Item → ℕ
longer_by i = i.place - i.start - length (tag_bytes i.piece.tag) - length (length_bytes (length i.piece.value))

unfoldable pub longer_of : List Item → ℕ
longer_of [] = 0
longer_of (i ∷ is) = longer_by i + longer_of is

unfoldable pub items_bytes : List Piece → List ℕ
items_bytes [] = []
items_bytes (c ∷ cs) = item_bytes c ++ items_bytes cs

-- key, length and items, with the checksum's value as the list has it
unfoldable pub unsummed : List Piece → List ℕ
unsummed cs = key ++ (length_bytes (length (items_bytes cs)) ++ items_bytes cs)

-- all but the last two bytes
abbrev pub before_sum : List ℕ → List ℕ
before_sum q = take (length q - 2) q

-- the last two bytes made the checksum of those before, "stored highest byte first"
unfoldable pub summed : List ℕ → List ℕ
summed q = before_sum q ++ bytes_of 2 (checksum_of (before_sum q))

unfoldable pub encode : List Piece → List ℕ
encode cs = summed (unsummed cs)

-- the pieces of the items that are given
abbrev pub pieces_in : Answer (List Item) → List Piece
pieces_in = or_else [] pieces

-- a packet as it is sent on: its pieces, written
unfoldable pub canonical : List ℕ → List ℕ
canonical p = encode (pieces_in (structure p))
