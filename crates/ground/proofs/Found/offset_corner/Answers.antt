-- `ground::offset_corner` meets its contract.
use mathlib.Core.Path.{ap₂, ◌∙◌}
use Rattle.ground.specs.Ground.{point_of, sum_of, offset_corner}
use Rattle.ground.proofs.Alike.{like_23, like_24, like_north, like_east}
use Rattle.ground.proofs.Answers.{small_value}
use Rattle.ground.proofs.Found.offset_corner.Goals as goal

pub value_at-north-requires : goal.value_at-north-requires
value_at-north-requires c = like_23

pub value_at-up-requires : goal.value_at-up-requires
value_at-up-requires c = like_north _ c.requires.0 c.requires.1

pub value_at-east-requires : goal.value_at-east-requires
value_at-east-requires c = like_24

pub value_at-right-requires : goal.value_at-right-requires
value_at-right-requires c = like_east _ c.requires.0 c.requires.1

pub sum-latitude-requires : goal.sum-latitude-requires
sum-latitude-requires c = (small_value _ _ _ c.value_at-north.ensures, small_value _ _ _ c.value_at-up.ensures)

pub sum-longitude-requires : goal.sum-longitude-requires
sum-longitude-requires c = (small_value _ _ _ c.value_at-east.ensures, small_value _ _ _ c.value_at-right.ensures)

pub returns : goal.returns
unfolding offset_corner
returns c =
    let north = c.sum-latitude.ensures ∙ ap₂ sum_of c.value_at-north.ensures c.value_at-up.ensures in
    let east = c.sum-longitude.ensures ∙ ap₂ sum_of c.value_at-east.ensures c.value_at-right.ensures in
    c.point_of.ensures ∙ ap₂ (λ a b. point_of a b) north east
