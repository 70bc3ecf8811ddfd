-- The shadow of the code, not to be believed but proved to be what document 01's definitions give: rows that can be listed.
use Rattle.std.specs.Prelude.{ℕ, ◌+◌, ◌*◌, ◌≤◌, List, [], ◌∷◌, length}
use Rattle.std.specs.Coded.{×_prop, Unit-prop, le_prop}
use Rattle.base.specs.Every.{Each}
use Rattle.rows.specs.declared.RowWords.{RowWords}
use Rattle.rows.specs.Taken.{part_place, part_length}
use Rattle.scale.specs.Conversions.{to_house}
use Rattle.listing.specs.Lines.{number_text, lines_of}

-- a reading as it is printed
abbrev pub reading_text : RowWords → List ℕ
reading_text r = number_text (to_house r.tag (part_length r.part) r.code) r.code

-- a row whose value lies in the packet
abbrev pub InPacket : List ℕ → RowWords → Type 0
InPacket p r = part_place r.part + part_length r.part ≤ length p

-- rows of a packet: a line has at most 42 bytes and two digits for each byte of its value
pub record Listable (p : List ℕ) (rs : List RowWords) : Type 0 where
  pub inside : Each (InPacket p) rs
  pub few : length rs ≤ 128
  pub small : length p ≤ 8192
  pub short : length (lines_of p rs) ≤ 42 * length rs + 2 * length p

-- there is one proof of it, so a struct can carry it
pub inside_prop : (p : List ℕ) (rs : List RowWords) → IsProp (Each (InPacket p) rs)
inside_prop p [] = Unit-prop
inside_prop p (r ∷ rs) = ×_prop le_prop (inside_prop p rs)

pub listable_prop : (p : List ℕ) (rs : List RowWords) → IsProp (Listable p rs)
listable_prop p rs x y i = record {
  inside = inside_prop p rs x.inside y.inside i;
  few = le_prop x.few y.few i;
  small = le_prop x.small y.small i;
  short = le_prop x.short y.short i;
}
