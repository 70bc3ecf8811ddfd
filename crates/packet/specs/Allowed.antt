-- Document 01's rules of a packet, each by itself: what is allowed, with no order of checks and nothing read.
use Rattle.std.specs.Prelude.{ℕ, ◌+◌, ◌<◌, ◌≤◌, ◌≡◌, true, List, [], ◌∷◌, ◌++◌, length, get_or, take}
use Rattle.number.specs.Stored.{value_of}
use Rattle.ber.specs.Written.{tag_bytes}
use Rattle.ber.specs.Forms.{LengthForm}
use Rattle.checksum.specs.Sum.{checksum_of}
use Rattle.catalogue.specs.Shapes.{right_length, code_allowed}
use Rattle.packet.specs.Pieces.{Piece, Item, pieces}
use Rattle.packet.specs.Structure.{key}
use Rattle.packet.specs.Judge.{Knowing}

-- how many bytes stand before a piece's value, its length being in a form
abbrev pub head_of : Piece → List ℕ → ℕ
head_of c form = length (tag_bytes c.tag) + length form

-- "Items fill the rest without gap: tag, length, value": from a place on, a tag in its one form, a length in any of its
-- forms, and as many bytes
pub data ItemsOf : ℕ → List ℕ → List Item → Type 0 where
  no_more : {at : ℕ} → ItemsOf at [] []
  another : {at : ℕ} {is : List Item} (c : Piece) (form rest : List ℕ)
      → 0 < c.tag → c.tag < 2097152 → LengthForm (length c.value) form
      → ItemsOf (at + (head_of c form + length c.value)) rest is
      → ItemsOf at (tag_bytes c.tag ++ (form ++ (c.value ++ rest))) (record { start = at; place = at + head_of c form; piece = c } ∷ is)

-- the rules that hold for every receiver
pub record Formed (p : List ℕ) (is : List Item) : Type 0 where
  -- 3: "packet over 8,192 bytes"
  pub small : length p ≤ 8192
  -- "Key, 16 bytes", "Length, of the packet", "the rest"
  pub form : List ℕ
  pub body : List ℕ
  pub whole : p ≡ key ++ (form ++ body)
  -- "The outer length must equal the number of bytes left.", "A long form that could be shorter is accepted."
  pub outer : LengthForm (length body) form
  -- "Items fill the rest without gap"
  pub items : ItemsOf (16 + length form) body is
  -- "At most 128 items."
  pub few : length is ≤ 128
  -- "The first item is tag 2"
  pub first : Item
  pub others : List Item
  pub begins : is ≡ first ∷ others
  pub time : first.piece.tag ≡ 2
  -- "the last is tag 1 of length 2"
  pub front : List Item
  pub last : Item
  pub closes : is ≡ front ++ (last ∷ [])
  pub checksum : last.piece.tag ≡ 1
  pub pair : length last.piece.value ≡ 2
  -- "Checksum: every byte from the key through the checksum's own length byte."
  pub sum : value_of last.piece.value ≡ checksum_of (take last.place p)

abbrev pub piece_at : List Piece → ℕ → Piece
piece_at cs k = get_or cs k (record { tag = 0; value = [] })

-- the rules of the items that a receiver knows
pub record Clean (K : Knowing) (cs : List Piece) : Type 0 where
  -- 12: "known item of wrong length"; W-204: "12 no longer for length zero, except at 1, 2 and 65"
  pub sized : (k : ℕ) → k < length cs → K (piece_at cs k).tag ≡ true → right_length (piece_at cs k).tag (length (piece_at cs k).value) ≡ true
  -- 13: "known tag a second time"
  pub once : (j k : ℕ) → j < k → k < length cs → K (piece_at cs k).tag ≡ true → (piece_at cs j).tag ≡ (piece_at cs k).tag → ⊥
  -- 14: "item 34 or 63 outside its codes"; W-202 adds "14 for a code beyond 40,000 m"
  pub coded : (k : ℕ) → k < length cs → K (piece_at cs k).tag ≡ true
      → code_allowed (piece_at cs k).tag (length (piece_at cs k).value) (value_of (piece_at cs k).value) ≡ true
  -- "tag 65 is present"
  pub version : (k : ℕ) × (k < length cs) × ((piece_at cs k).tag ≡ 65)

pub record Allowed (K : Knowing) (p : List ℕ) (is : List Item) : Type 0 where
  pub formed : Formed p is
  pub clean : Clean K (pieces is)
