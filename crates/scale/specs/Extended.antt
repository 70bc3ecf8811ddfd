-- W-202, extended heights: items 103, 104 and 105, "-900 to 40,000 m (document 001). Accept lengths 2, 3 and 4."
-- Everything is said once, over the length n; so many codes as per_two_metres n are 2000 house units.
use Rattle.std.specs.Prelude.{ℕ, ◌*◌, ◌/◌, Bool, ℤ, pos, neg_ℤ, nat_abs, ◌+ℤ◌, ◌-ℤ◌, ◌*ℤ◌}
use Rattle.std.specs.Int.Signed.{lt_z}
use Rattle.catalogue.specs.Items.{thousandths}
use Rattle.catalogue.specs.Extended.{per_two_metres}
use Rattle.scale.specs.Nearest.{nearest}

-- "-900 to 40,000 m": the two ends in house units, both inside
unfoldable pub low_end : ℤ
low_end = neg_ℤ (pos (thousandths 900))

unfoldable pub high_end : ℤ
high_end = pos (thousandths 40000)

-- "The exact value is -900 m plus the code divided by the scale 2^(8 × length - 17) per metre"; "house numbers round to nearest, a tie upward".
-- Document 01 says of house units that "a tie never occurs": W-202 changed that for these items. Counted from the low end, upward is away from it,
-- also below zero
unfoldable pub extended_house : ℕ → ℕ → ℤ
extended_house n code = low_end +ℤ pos (nearest (code * 2000) (per_two_metres n))

-- "sending cuts down to the code below", which is the value's own where it has one. Document 01 says "To a code: nearest code": W-202 changed that
-- for these items, "Demand 2's nearest code reads 'the code at or below'"
unfoldable pub extended_code : ℕ → ℤ → ℕ
extended_code n value = nat_abs (value -ℤ low_end) * per_two_metres n / 2000

-- by how much a value misses the exact one, with nothing divided: in parts of which so many as per_two_metres n are one house unit
unfoldable pub extended_miss : ℕ → ℕ → ℤ → ℕ
extended_miss n code value = nat_abs ((value -ℤ low_end) *ℤ pos (per_two_metres n) -ℤ pos (code * 2000))

-- whether the exact value of a code is above a value, which is so where that was rounded down
unfoldable pub is_above : ℕ → ℕ → ℤ → Bool
is_above n code value = lt_z ((value -ℤ low_end) *ℤ pos (per_two_metres n)) (pos (code * 2000))
