-- Document 02, W-203: latitudes and longitudes on the Earth, in house units of 10^-7 degree.
use Rattle.std.specs.Prelude.{Bool, cond, ◌&&◌, ℤ, pos, neg_ℤ, ◌+ℤ◌}
use Rattle.std.specs.Int.Signed.{lt_z, le_z}
use Rattle.scale.specs.Scales.{beyond}

-- 90 degrees, 180 degrees and "one turn of 360 degrees"
abbrev pub pole : ℤ
pole = pos 900000000

abbrev pub half_turn : ℤ
half_turn = pos 1800000000

abbrev pub one_turn : ℤ
one_turn = pos 3600000000

-- "A latitude sum beyond 90 degrees either way"
abbrev pub beyond_pole : ℤ → Bool
beyond_pole latitude = beyond (neg_ℤ pole) pole latitude

-- "-180 (included) to 180 (excluded)"
abbrev pub in_range : ℤ → Bool
in_range longitude = le_z (neg_ℤ half_turn) longitude && lt_z longitude half_turn

-- the turn that brings a longitude back: 180 degrees and more goes down, below -180 goes up
unfoldable pub turn_for : ℤ → ℤ
turn_for longitude = cond (le_z half_turn longitude) (neg_ℤ one_turn) (cond (lt_z longitude (neg_ℤ half_turn)) one_turn (pos 0))

-- "Longitude is to come back into -180 (included) to 180 (excluded) by one turn of 360 degrees"
abbrev pub brought_back : ℤ → ℤ
brought_back longitude = longitude +ℤ turn_for longitude
