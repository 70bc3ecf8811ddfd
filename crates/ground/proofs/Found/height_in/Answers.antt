-- `ground::height_in` meets its contract.
use mathlib.Core.Path.{refl, ap, ◌∙◌}
use mathlib.Core.Logic.{⊎_elim}
use borrow.Author.Rules.{rules}
use mir.Syntax.{w64}
use mir.Val.{SFits}
use mir.Facts.{to_z-of_z}
use Rattle.ground.specs.Ground.{over_ellipsoid, over_sea_level}
use Rattle.ground.specs.declared.Value.TheVariants.{Absent, Off}
use Rattle.ground.proofs.Answers.{height_told}
use Rattle.ground.proofs.Found.height_in.Goals as goal

pub returns-in-At : goal.returns-in-At
returns-in-At c =
    let fits : SFits w64 c.in-At.over = search rules in
    ap (λ z. over_ellipsoid z) (to_z-of_z fits)
    ∙ height_told _ _ _ _ _ _ _ c.value_at.ensures refl c.in-At.is refl

pub returns-in-Off : goal.returns-in-Off
returns-in-Off c = height_told _ _ _ _ _ Off _ c.value_at.ensures refl c.in-Off.is refl

pub returns-in-At-value_at : goal.returns-in-At-value_at
returns-in-At-value_at c =
    let fits : SFits w64 c.in-At-value_at.above = search rules in
    ap (λ z. over_sea_level z) (to_z-of_z fits)
    ∙ height_told _ _ _ _ _ Absent _ c.value_at.ensures c.value_at-in-Absent.ensures
    c.in-Absent.is c.in-At-value_at.is

pub returns-in-Off-value_at : goal.returns-in-Off-value_at
returns-in-Off-value_at c =
    ⊎_elim
    (λ e. height_told _ _ _ _ _ Absent Off c.value_at.ensures c.value_at-in-Absent.ensures c.in-Absent.is e)
    (λ e. height_told _ _ _ _ _ Absent Absent c.value_at.ensures c.value_at-in-Absent.ensures c.in-Absent.is e)
    c.in-Off-value_at.is
