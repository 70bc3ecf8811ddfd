-- Document 01, Catalogue: "Unsigned of n bits: low + code × (high - low) / (2^n - 1). Signed of n bits, except 39: code × high / (2^(n-1) - 1),
-- and the lowest code (only the top bit set) is a mark, not a number." Item 39 goes by the same rule, without a mark.
use Rattle.std.specs.Prelude.{ℕ, ◌-◌, ◌*◌, ◌^◌, Bool, not, cond, ◌&&◌, ◌||◌, ltb, leb, eqb, ℤ, pos, neg_ℤ, nat_abs, ◌-ℤ◌}
use Rattle.std.specs.Int.Signed.{lt_z}
use Rattle.catalogue.specs.Rows.{is_signed}
use Rattle.catalogue.specs.Shapes.{is_marked}
use Rattle.catalogue.specs.declared.Item.{Item}

-- an item without scale has low equal to high. W-202's extended heights have no width: their scale is another, by the length (Extended)
abbrev pub scaled : Item → Bool
scaled i = ltb 0 i.width && lt_z i.low i.high

abbrev pub signed : Item → Bool
signed i = is_signed i.sign

-- how many codes n bits have, and how many of them have the top bit clear
unfoldable pub codes : Item → ℕ
codes i = 2 ^ (8 * i.width)

unfoldable pub half : Item → ℕ
half i = 2 ^ (8 * i.width - 1)

-- values and codes are counted from the low end, of a signed item from zero
unfoldable pub origin : Item → ℤ
origin i = cond (signed i) (pos 0) i.low

-- from there to the high end: so many house units, and so many codes
unfoldable pub reach : Item → ℕ
reach i = nat_abs (i.high -ℤ origin i)

unfoldable pub steps : Item → ℕ
steps i = cond (signed i) (half i) (codes i) - 1

-- a code that stands for a number: one that fits and is no mark
abbrev pub is_mark : Item → ℕ → Bool
is_mark i code = is_marked i.sign && eqb code (half i)

abbrev pub is_number : Item → ℕ → Bool
is_number i code = ltb code (codes i) && not (is_mark i code)

-- a value outside the range; both ends are inside
abbrev pub beyond : ℤ → ℤ → ℤ → Bool
beyond low high value = lt_z value low || lt_z high value

abbrev pub is_outside : Item → ℤ → Bool
is_outside i value = beyond i.low i.high value

-- below the origin or not, and how far from it: of a code in two's complement, and of a value
abbrev pub code_below : Item → ℕ → Bool
code_below i code = signed i && leb (half i) code

abbrev pub code_far : Item → ℕ → ℕ
code_far i code = cond (code_below i code) (codes i - code) code

abbrev pub value_below : Item → ℤ → Bool
value_below i value = lt_z value (origin i)

abbrev pub value_far : Item → ℤ → ℕ
value_far i value = nat_abs (value -ℤ origin i)

-- a distance as a whole number, below or above
abbrev pub side : Bool → ℕ → ℤ
side below far = cond below (neg_ℤ (pos far)) (pos far)
