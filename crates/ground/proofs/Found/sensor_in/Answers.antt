-- `ground::sensor_in` meets its contract.
use mathlib.Core.Path.{refl, ap, ◌∙◌}
use mir.Syntax.{w64}
use mir.Val.{SFits}
use mir.Facts.{to_z-of_z}
use Rattle.ground.specs.Ground.{over_ellipsoid}
use Rattle.ground.specs.declared.Value.TheVariants.{Off}
use Rattle.ground.proofs.Alike.{like_75, like_15}
use Rattle.ground.proofs.Answers.{sensor_told, sensor_other}
use Rattle.catalogue.specs.Extended.{is_extended}
use borrow.Author.Rules.{rules}
use Rattle.ground.proofs.Found.sensor_in.Goals as goal

pub extended_at-requires : goal.extended_at-requires
unfolding is_extended
extended_at-requires c = refl

pub height_in-requires : goal.height_in-requires
height_in-requires c = (like_75, like_15)

pub returns-in-At : goal.returns-in-At
returns-in-At c =
    let fits : SFits w64 c.in-At.over = search rules in
    ap (λ z. over_ellipsoid z) (to_z-of_z fits)
    ∙ sensor_told _ _ _ c.extended_at.ensures c.in-At.is

pub returns-in-Off : goal.returns-in-Off
returns-in-Off c = sensor_told _ _ Off c.extended_at.ensures c.in-Off.is

pub returns-in-Absent : goal.returns-in-Absent
returns-in-Absent c = c.height_in.ensures ∙ sensor_other _ _ c.extended_at.ensures c.in-Absent.is
