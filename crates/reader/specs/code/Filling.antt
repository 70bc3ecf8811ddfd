-- The shadow of the code, not to be believed but proved to be what document 01's definitions give: how a table is filled.
use Rattle.std.specs.Prelude.{ℕ, ◌+◌, ◌-◌, ◌*◌, ◌/◌, ◌%◌, ◌^◌, ◌≤◌, ◌≡◌, Bool, true, cond, List, [], ◌∷◌, length, eqb}
use Rattle.std.specs.Int.Bits.{bit_and}
use lib.Seq.{sets}
use Rattle.refusal.specs.Answer.{Answer, given, or_else}
use Rattle.tagset.specs.declared.TagSet.{TagSet}
use Rattle.catalogue.specs.code.Column.{shape_mask}
use Rattle.catalogue.specs.declared.Shape.{Shape}
use Rattle.catalogue.specs.declared.Shape.TheVariants.{Text, Number, Absent}
use Rattle.rows.specs.Meaning.{carried_kind, withdrawn_kind}
use Rattle.packet.specs.Pieces.{Item}
use Rattle.packet.specs.Structure.{ItemsFrom}
use Rattle.packet.specs.Said.{header_at}
use Rattle.packet.specs.Verdict.{received}
use Rattle.packet.specs.Rows.{RowWords}
use Rattle.packet.specs.declared.Header.{Header}

-- a row's words put at its place
abbrev pub put_row : List ℕ → ℕ → RowWords → List ℕ
put_row t n r = sets t (4 * n) (r.tag ∷ r.kind ∷ r.code ∷ r.part ∷ [])

-- a number has up to eight bytes, which lie within its mask, and one length if it has a mark; text and carried bytes are not read as numbers
pub record Fitting (shape : Shape) (marked : Bool) (most n : ℕ) : Type 0 where
  pub few : n ≤ 8
  pub within : bit_and n (shape_mask shape) ≡ n
  pub one : marked ≡ true → n ≡ most

pub record Masked (shape : Shape) (marked : Bool) (most n : ℕ) : Type 0 where
  pub mask : shape_mask shape ≤ 8
  pub fits : (n ≡ 0 → ⊥) → Fitting shape marked most n

abbrev pub Narrow : Shape → ℕ → Type 0
Narrow (Number least most marked) n = Masked (Number least most marked) marked most n
Narrow Text n = Unit {0}
Narrow Absent n = Unit {0}

-- the lowest bytes of a word, as many as a width, at its top
abbrev pub top_of : ℕ → ℕ → ℕ
top_of width word = word * 2 ^ (64 - 8 * width) % 2 ^ 64

-- the kind by a shape's byte, a length and a code at the top
abbrev pub kind_by : ℕ → ℕ → ℕ → ℕ
kind_by byte size top =
    cond (eqb size 0)
    (cond (eqb (byte / 16 % 8) carried_kind) carried_kind withdrawn_kind)
    (cond (eqb top (2 ^ 63)) (byte / 16 % 8 + byte / 128) (byte / 16 % 8))

-- there is an item at a place
pub record ItemAt (p : List ℕ) (at : ℕ) : Type 0 where
  pub header : Header
  pub found : header_at p at ≡ given header

-- the items of an accepted packet
abbrev pub or_none : Answer (List Item) → List Item
or_none = or_else [] (λ is. is)

abbrev pub items_of : TagSet → List ℕ → List Item
items_of K p = or_none (received K p)

-- a packet that a receiver accepts, so many of whose items begin at a place, which is past the key
pub record AcceptsFrom (K : TagSet) (p : List ℕ) (from count : ℕ) : Type 0 where
  pub begins : ItemsFrom p from
  pub accepted : received K p ≡ given begins.items
  pub past : 16 ≤ from
  pub counted : count ≡ length begins.items
