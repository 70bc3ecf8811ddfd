-- W-202, extended heights: "Accept lengths 2, 3 and 4. The exact value is -900 m plus the code divided by the scale 2^(8 × length - 17) per
-- metre".
use Rattle.std.specs.Prelude.{ℕ, ◌-◌, ◌*◌, ◌^◌, Bool, ◌&&◌, leb}

-- "items 103, 104 and 105"
unfoldable pub is_extended : ℕ → Bool
is_extended t = leb 103 t && leb t 105

-- so many codes of n bytes are two metres: twice the scale, which for two bytes is half a code per metre
abbrev pub per_two_metres : ℕ → ℕ
per_two_metres n = 2 ^ (8 * n - 16)

-- a code of an allowed length that is not "beyond 40,000 m", which is 40,900 m above the low end
unfoldable pub in_reach : ℕ → ℕ → Bool
in_reach n code = leb 2 n && (leb n 4 && leb (2 * code) (40900 * per_two_metres n))
