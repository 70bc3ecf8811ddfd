-- The words that the demands are said in.
use Rattle.std.specs.Prelude.{ℕ, ◌≤◌, ◌≡◌, true, List, ◌∷◌, ◌++◌, length}
use Rattle.tagset.specs.Sets.{holds}
use Rattle.tagset.specs.declared.TagSet.{TagSet}
use Rattle.knowing.specs.Good.{good}
use Rattle.packet.specs.Pieces.{Item}
use Rattle.packet.specs.Allowed.{Allowed}
use Rattle.packet.specs.Verdict.{body_of}
use Rattle.packet.specs.Rows.{Filled, filled_by, table_of}
use Rattle.packet.specs.declared.Accepted.{Accepted}

-- a packet that document 01 allows to who knows K, and its items
pub record AllowedTo (K : TagSet) (p : List ℕ) : Type 0 where
  pub knows : good K ≡ true
  pub items : List Item
  pub allowed : Allowed (holds K) p items

-- of which one starts at a place and has a tag
pub record Starts (is : List Item) (place tag : ℕ) : Type 0 where
  pub item : Item
  pub before : List Item
  pub after : List Item
  pub among : is ≡ before ++ (item ∷ after)
  pub start : item.start ≡ place
  pub named : item.piece.tag ≡ tag

-- who has checked it knows where its items begin, how many there are, and as two words which known ones
pub record CheckedAs (K : TagSet) (p : List ℕ) (b : Accepted) : Type 0 where
  pub packet : AllowedTo K p
  pub body : b ≡ body_of (holds K) packet.items

-- who has read it has the items' count and the two words beside their rows, and the rows in the table lent
pub record ReadAs (K : TagSet) (p t : List ℕ) (done : Filled) (t' : List ℕ) : Type 0 where
  pub packet : AllowedTo K p
  pub long : 512 ≤ length t
  pub filled : done ≡ filled_by (holds K) packet.items
  pub table : t' ≡ table_of (holds K) packet.items t
