-- Document 01, Heights and corners: over the rows of an accepted packet.
use Rattle.std.specs.Prelude.{ℕ, ◌+◌, ◌*◌, cond, ◌&&◌, List, ltb, ℤ, ◌+ℤ◌}
use Rattle.refusal.specs.Answer.{Answer, map}
use Rattle.tagset.specs.Sets.{holds}
use Rattle.tagset.specs.declared.TagSet.{TagSet}
use Rattle.rows.specs.declared.RowWords.{RowWords}
use Rattle.packet.specs.Verdict.{received}
use Rattle.packet.specs.Rows.{rows_of}
use Rattle.ground.specs.Values.{value_for}
use Rattle.ground.specs.Earth.{beyond_pole, brought_back}
use Rattle.ground.specs.declared.Value.{Value}
use Rattle.ground.specs.declared.Value.TheVariants.{Absent, Off, At}

-- "the answer keeps the kind of height it was"
pub data HeightSeen : Type 0 where
  no_height : HeightSeen
  over_ellipsoid : (mm : ℤ) → HeightSeen
  over_sea_level : (mm : ℤ) → HeightSeen

-- the first row "if present, else" the second, "else missing"; no height has a mark
abbrev pub height_by : Value → Value → HeightSeen
height_by (At mm) other = over_ellipsoid mm
height_by Off other = no_height
height_by Absent (At mm) = over_sea_level mm
height_by Absent Off = no_height
height_by Absent Absent = no_height

unfoldable pub height_in : ℕ → ℕ → List RowWords → HeightSeen
height_in ellipsoid seaLevel rs = height_by (value_for ellipsoid rs) (value_for seaLevel rs)

-- of two rows over the ellipsoid the first that is present
abbrev pub before : Value → Value → Value
before (At mm) other = At mm
before Off other = Off
before Absent other = other

-- "Sensor height: row 75 if present, else 15, else missing." W-202: "Item 104 goes before 75 for sensor height."
unfoldable pub sensor_in : List RowWords → HeightSeen
sensor_in rs = height_by (before (value_for 104 rs) (value_for 75 rs)) (value_for 15 rs)

pub data CornerSeen : Type 0 where
  no_corner : CornerSeen
  off_the_earth : CornerSeen
  on : (latitude longitude : ℤ) → CornerSeen

-- both coordinates, "a mark in any row used gives "off the Earth""
abbrev pub point_of : Value → Value → CornerSeen
point_of Absent longitude = no_corner
point_of Off Absent = no_corner
point_of Off Off = off_the_earth
point_of Off (At b) = off_the_earth
point_of (At a) Absent = no_corner
point_of (At a) Off = off_the_earth
point_of (At a) (At b) = on a b

-- "each is turned into house units and the plain sum is taken"
abbrev pub sum_of : Value → Value → Value
sum_of Absent offset = Absent
sum_of Off Absent = Absent
sum_of Off Off = Off
sum_of Off (At b) = Off
sum_of (At a) Absent = Absent
sum_of (At a) Off = Off
sum_of (At a) (At b) = At (a +ℤ b)

-- the coordinate of a full row, and that of a centre row and an offset row
abbrev pub full_coordinate : ℕ → List RowWords → Value
full_coordinate full rs = value_for full rs

abbrev pub offset_coordinate : ℕ → ℕ → List RowWords → Value
offset_coordinate centre offset rs = sum_of (value_for centre rs) (value_for offset rs)

-- "full rows 80+2k, 81+2k and offset rows 24+2k, 25+2k", with the frame centre's rows 23 and 24
unfoldable pub full_corner : ℕ → List RowWords → CornerSeen
full_corner k rs = point_of (full_coordinate (80 + 2 * k) rs) (full_coordinate (81 + 2 * k) rs)

unfoldable pub offset_corner : ℕ → List RowWords → CornerSeen
offset_corner k rs = point_of (offset_coordinate 23 (24 + 2 * k) rs) (offset_coordinate 24 (25 + 2 * k) rs)

-- "If both full rows are present they decide"
abbrev pub otherwise : CornerSeen → CornerSeen → CornerSeen
otherwise no_corner other = other
otherwise off_the_earth other = off_the_earth
otherwise (on a b) other = on a b

-- "Any other k is missing."
unfoldable pub plain_corner : ℕ → List RowWords → CornerSeen
plain_corner k rs = cond (ltb 0 k && ltb k 5) (otherwise (full_corner k rs) (offset_corner k rs)) no_corner

-- W-203 changed "the plain sum is taken": "The plain sum in document 01 is wrong there. Longitude is to come back … for sums and also for full
-- corners at exactly 180. A latitude sum beyond 90 degrees either way is "off the Earth"." No full row has such a latitude.
abbrev pub on_earth : CornerSeen → CornerSeen
on_earth no_corner = no_corner
on_earth off_the_earth = off_the_earth
on_earth (on latitude longitude) = cond (beyond_pole latitude) off_the_earth (on latitude (brought_back longitude))

unfoldable pub corner_in : ℕ → List RowWords → CornerSeen
corner_in k rs = on_earth (plain_corner k rs)

-- what a receiver works out of the rows of a packet, or "first … the reader's refusal (never 2)"
unfoldable pub from_rows : {A : Type 0} → (List RowWords → A) → TagSet → List ℕ → Answer A
from_rows f K p = map (λ is. f (rows_of (holds K) is)) (received K p)

abbrev pub sensor_height : TagSet → List ℕ → Answer HeightSeen
sensor_height = from_rows sensor_in

abbrev pub frame_centre_height : TagSet → List ℕ → Answer HeightSeen
frame_centre_height = from_rows (height_in 78 25)

abbrev pub corner_of : ℕ → TagSet → List ℕ → Answer CornerSeen
corner_of k = from_rows (corner_in k)
