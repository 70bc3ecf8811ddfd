-- The fixed table: a row for each item, in the order of the tags.
use Rattle.std.specs.Prelude.{ℕ, zero, suc, ◌+◌, ◌/◌, ◌%◌, ◌^◌, Bool, true, false, cond, List, [], ◌∷◌, eqb, ℤ, pos, negsuc, ◌+ℤ◌, get_or, Option, Some, None}
use Rattle.tagset.specs.declared.TagSet.{TagSet}
use Rattle.catalogue.specs.Items.{item_of}
use Rattle.catalogue.specs.declared.Sign.{Sign}
use Rattle.catalogue.specs.declared.Sign.TheVariants.{Unsigned, Signed, Marked}
use Rattle.catalogue.specs.declared.Item.{Item}
use Rattle.catalogue.specs.declared.Entry.{Entry}

abbrev pub is_signed : Sign → Bool
is_signed Unsigned = false
is_signed Signed = true
is_signed Marked = true

-- an item's row, in front of the rows after it
abbrev pub onto : Option Item → List Entry → List Entry
onto (Some i) es = (i.tag, i.width, is_signed i.sign, i.low, i.high) ∷ es
onto None es = es

-- of n tags from t on
unfoldable pub rows_from : ℕ → ℕ → List Entry
rows_from zero t = []
rows_from (suc n) t = onto (item_of t) (rows_from n (suc t))

unfoldable pub rows : List Entry
rows = rows_from 128 0

-- the row at a place
abbrev pub entry_at : ℕ → Entry
entry_at at = get_or rows at (0, 0, false, pos 0, pos 0)

-- the tags of all rows: bit t of the pair for each tag t
abbrev pub bits : List Entry → ℕ
bits [] = 0
bits (e ∷ es) = 2 ^ e.0 + bits es

unfoldable pub all_tags : TagSet
all_tags = record { low = bits rows % 2 ^ 64; high = bits rows / 2 ^ 64 }

-- the item that a row tells: a signed number has a mark where low is -high
abbrev pub is_zero : ℤ → Bool
is_zero (pos n) = eqb n 0
is_zero (negsuc n) = false

abbrev pub sign_by : Entry → Sign
sign_by e = cond e.2 (cond (is_zero (e.3 +ℤ e.4)) Marked Signed) Unsigned

abbrev pub item_by : Entry → Item
item_by e = record { tag = e.0; width = e.1; sign = sign_by e; low = e.3; high = e.4 }
