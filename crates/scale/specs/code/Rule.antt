-- The shadow of the code, not to be believed but proved to be what document 01's definitions give: the rule that
-- every scaled item of the table keeps, tested once over the whole table, and an item's scale as the code has it.
use Rattle.std.specs.Prelude.{ℕ, ◌+◌, ◌-◌, ◌*◌, ◌/◌, ◌%◌, ◌^◌, ◌<◌, ◌≤◌, ◌≡◌, true, false, cond, ℤ, pos, nat_abs, ◌-ℤ◌}
use Rattle.std.specs.Int.Signed.{mag, lt_z}
use Rattle.catalogue.specs.Shapes.{is_marked}
use Rattle.catalogue.specs.declared.Item.{Item}
use Rattle.scale.specs.Nearest.{nearest}
use Rattle.scale.specs.Scales.{signed, codes, half, origin, reach, steps}
use Rattle.scale.specs.declared.Scale.{Scale}

-- 5 divides the range of every unsigned item and its steps, so that with both divided by 5 the products fit
abbrev pub shared : Item → ℕ
shared i = cond (signed i) 1 5

-- how far the low end is below the origin, and the code that it gets
abbrev pub depth : Item → ℕ
depth i = nat_abs (i.low -ℤ origin i)

abbrev pub lowest : Item → ℕ
lowest i = nearest (depth i * steps i) (reach i)

-- the codes below the origin, the mark aside
abbrev pub under : Item → ℕ
under i = cond (signed i) (cond (is_marked i.sign) (steps i) (half i)) 0

pub record Rule (i : Item) : Type 0 where
  -- the codes
  pub narrow : i.width < 5
  pub halves : half i + half i ≡ codes i
  pub odd : steps i % 2 ≡ 1
  -- the range, with the origin in it
  pub some : 0 < reach i
  pub low_small : mag i.low < 2 ^ 62
  pub high_small : mag i.high < 2 ^ 62
  pub low_below : lt_z (origin i) i.low ≡ false
  pub high_above : lt_z i.high (origin i) ≡ false
  -- what is shared, and that the code's products fit
  pub reach_shared : shared i * (reach i / shared i) ≡ reach i
  pub steps_shared : shared i * (steps i / shared i) ≡ steps i
  pub units_small : nearest (codes i * reach i) (steps i) < 2 ^ 62
  pub house_small : codes i * (reach i / shared i) < 2 ^ 63
  pub deep_small : depth i * (steps i / shared i) < 2 ^ 63
  pub high_fits : reach i * (steps i / shared i) < 2 ^ 63
  -- below the origin, values get codes that are no marks, and codes get values inside the range
  pub lowest_under : lowest i ≤ under i
  pub under_inside : nearest (under i * reach i) (steps i) ≤ depth i

-- an item's scale as the code has it
pub record Scales (i : Item) (s : Scale) : Type 0 where
  pub from : s.origin ≡ origin i
  pub two_sided : s.signed ≡ signed i
  pub all_codes : s.codes ≡ codes i
  pub units : s.reach ≡ reach i / shared i
  pub count : s.steps ≡ steps i / shared i

-- the scale of a signed item with so many codes
pub record Counted (codes : ℕ) (high : ℤ) (s : Scale) : Type 0 where
  pub from : s.origin ≡ pos 0
  pub two_sided : s.signed ≡ true
  pub all_codes : s.codes ≡ codes
  pub units : s.reach ≡ nat_abs high
  pub count : s.steps ≡ codes / 2 - 1
