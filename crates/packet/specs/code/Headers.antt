-- The shadow of the code, not to be believed but proved to be what document 01's definitions give: headers and items.
use Rattle.std.specs.Prelude.{ℕ, Bool, ◌&&◌, List, ltb, length, take, drop}
use Rattle.packet.specs.Pieces.{Item}
use Rattle.packet.specs.declared.Header.{Header}

-- an item's header
abbrev pub header_of : Item → Header
header_of i = record { tag = i.piece.tag; start = i.start; place = i.place; size = length i.piece.value }

-- the item that a header of a packet stands for
abbrev pub item_by : List ℕ → Header → Item
item_by p h = record { start = h.start; place = h.place; piece = record { tag = h.tag; value = take h.size (drop h.place p) } }

-- a tag and a length of one byte each
unfoldable pub short_forms : ℕ → ℕ → Bool
short_forms tag size = ltb 0 tag && (ltb tag 128 && ltb size 128)
