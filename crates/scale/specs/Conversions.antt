-- Document 01: a code in house units and a value's code, or refusal 19 (no scale), 20 (a mark or too wide) or 21 (outside the range), with the tag as given.
-- W-202: "The conversions are told the length, ignored at other tags" than those of the extended heights, which come first.
use Rattle.std.specs.Prelude.{ℕ, ◌-◌, ◌*◌, Bool, not, cond, ◌&&◌, ltb, ℤ, ◌+ℤ◌, Option, Some, None}
use Rattle.refusal.specs.Answer.{Answer, given, refused}
use Rattle.catalogue.specs.Items.{item_of}
use Rattle.catalogue.specs.Shapes.{length_allowed}
use Rattle.catalogue.specs.Extended.{is_extended, in_reach}
use Rattle.catalogue.specs.declared.Item.{Item}
use Rattle.scale.specs.Nearest.{nearest}
use Rattle.scale.specs.Scales.{scaled, codes, origin, reach, steps, is_number, beyond, is_outside, code_below, code_far, value_below, value_far, side}
use Rattle.scale.specs.Extended.{low_end, high_end, extended_house, extended_code}
use Rattle.scale.specs.declared.House.{House}
use Rattle.scale.specs.declared.Code.{Code}

-- the item of a tag, if it has a scale
abbrev pub if_scaled : Option Item → Option Item
if_scaled (Some i) = cond (scaled i) (Some i) None
if_scaled None = None

abbrev pub scaled_item : ℕ → Option Item
scaled_item tag = if_scaled (item_of tag)

-- what an item with a scale gives where the test passes, else the refusal numbered n; without a scale refusal 19
abbrev pub converted : {A : Type 0} → ℕ → ℕ → (Item → Bool) → (Item → A) → Option Item → Answer A
converted n tag test give (Some i) = cond (test i) (given (give i)) (refused n 0 tag)
converted n tag test give None = refused 19 0 tag

-- W-202: "the conversions give 19 for another length and 20 for such a code", one beyond 40,000 m or too wide; a value outside gets 21 as elsewhere
abbrev pub by_length : {A : Type 0} → ℕ → ℕ → ℕ → Bool → A → Answer A
by_length k tag n test give = cond (length_allowed tag n) (cond test (given give) (refused k 0 tag)) (refused 19 0 tag)

-- "To house units: nearest whole number": so many units away from the origin
abbrev pub units_away : Item → ℕ → ℕ
units_away i code = nearest (code_far i code * reach i) (steps i)

unfoldable pub house_of : Item → ℕ → ℤ
house_of i code = origin i +ℤ side (code_below i code) (units_away i code)

abbrev pub house_given : Item → ℕ → House
house_given i code = record { value = house_of i code }

abbrev pub height_given : ℕ → ℕ → House
height_given n code = record { value = extended_house n code }

-- of a tag, a length and a code
unfoldable pub to_house : ℕ → ℕ → ℕ → Answer House
to_house tag n code =
    cond (is_extended tag)
    (by_length 20 tag n (in_reach n code) (height_given n code))
    (converted 20 tag (λ i. is_number i code) (λ i. house_given i code) (scaled_item tag))

-- "To a code: nearest code; a tie goes away from the low end for unsigned items and away from zero for signed ones."
abbrev pub codes_away : Item → ℤ → ℕ
codes_away i value = nearest (value_far i value * steps i) (reach i)

-- the code so far from the origin, in two's complement where it is below
abbrev pub code_at : Item → Bool → ℕ → ℕ
code_at i below far = cond (below && ltb 0 far) (codes i - far) far

unfoldable pub code_of : Item → ℤ → ℕ
code_of i value = code_at i (value_below i value) (codes_away i value)

abbrev pub code_given : Item → ℤ → Code
code_given i value = record { code = code_of i value }

abbrev pub sent_given : ℕ → ℤ → Code
sent_given n value = record { code = extended_code n value }

-- of a tag, a length and a value
unfoldable pub to_code : ℕ → ℕ → ℤ → Answer Code
to_code tag n value =
    cond (is_extended tag)
    (by_length 21 tag n (not (beyond low_end high_end value)) (sent_given n value))
    (converted 21 tag (λ i. not (is_outside i value)) (λ i. code_given i value) (scaled_item tag))
