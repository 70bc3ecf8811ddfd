-- W-205: "The sixteen corner tags follow a pattern: even is latitude, odd is longitude, two blocks." Document 01's groups (Items.antt) stay the
-- definition of an item; that the pattern says of these tags what the groups say is proved.
use Rattle.std.specs.Prelude.{ℕ, ◌%◌, Bool, true, cond, ◌&&◌, ◌||◌, leb, eqb, pos, neg_ℤ}
use Rattle.catalogue.specs.Items.{degrees}
use Rattle.catalogue.specs.declared.Entry.{Entry}

-- the tags from one to another
abbrev pub in_block : ℕ → ℕ → ℕ → Bool
in_block first last t = leb first t && leb t last

-- the block of the offsets
unfoldable pub is_offset : ℕ → Bool
is_offset t = in_block 26 33 t

-- the block of the full corners
unfoldable pub is_full : ℕ → Bool
is_full t = in_block 82 89 t

unfoldable pub is_corner : ℕ → Bool
is_corner t = is_offset t || is_full t

-- the row of a signed number of so many bytes from -high to high
abbrev both_ways : ℕ → ℕ → ℕ → Entry
both_ways t width high = (t, width, true, neg_ℤ (pos high), pos high)

-- an offset goes 0.075 degrees to either side, in latitude and in longitude
abbrev pub offset_row : ℕ → Entry
offset_row t = both_ways t 2 750000

-- "even is latitude, odd is longitude": 90 degrees to either side, or 180
abbrev pub full_row : ℕ → Entry
full_row t = both_ways t 4 (degrees (cond (eqb (t % 2) 0) 90 180))

-- a corner's row
unfoldable pub corner_row : ℕ → Entry
corner_row t = cond (is_offset t) (offset_row t) (full_row t)
