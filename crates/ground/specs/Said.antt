-- What the answers of an accepted packet say: the height with its kind, and the corner. A refusal is said by `answer_said`.
use Rattle.ground.specs.Ground.{HeightSeen, no_height, over_ellipsoid, over_sea_level, CornerSeen, no_corner, off_the_earth, on}
use Rattle.ground.specs.declared.Height.{Height}
use Rattle.ground.specs.declared.Height.TheVariants as height
use Rattle.ground.specs.declared.Corner.{Corner}
use Rattle.ground.specs.declared.Corner.TheVariants as corner

abbrev pub height_said : Height → HeightSeen
height_said (height.OverEllipsoid h) = over_ellipsoid h.0
height_said (height.OverSeaLevel h) = over_sea_level h.0
height_said height.Missing = no_height

abbrev pub corner_said : Corner → CornerSeen
corner_said (corner.At p) = on p.latitude p.longitude
corner_said corner.OffTheEarth = off_the_earth
corner_said corner.Missing = no_corner
