-- `ground::full_corner` meets its contract.
use mathlib.Core.Path.{ap₂, ◌∙◌}
use Rattle.ground.specs.Ground.{point_of, full_corner}
use Rattle.ground.proofs.Alike.{like_latitude, like_longitude}
use Rattle.ground.proofs.Found.full_corner.Goals as goal

pub value_at-latitude-requires : goal.value_at-latitude-requires
value_at-latitude-requires c = like_latitude _ c.requires.0 c.requires.1

pub value_at-longitude-requires : goal.value_at-longitude-requires
value_at-longitude-requires c = like_longitude _ c.requires.0 c.requires.1

pub returns : goal.returns
unfolding full_corner
returns c = c.point_of.ensures ∙ ap₂ (λ a b. point_of a b) c.value_at-latitude.ensures c.value_at-longitude.ensures
