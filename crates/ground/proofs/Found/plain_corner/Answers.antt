-- `ground::plain_corner` meets its contract.
use Rattle.ground.proofs.Answers.{no_corner_0, no_corner_5, by-offset, by_full}
use Rattle.ground.proofs.Found.plain_corner.Goals as goal

pub returns-then-k-eq0 : goal.returns-then-k-eq0
returns-then-k-eq0 c = no_corner_0 _ _ c.if-k-eq0.true

pub returns-then-past_last : goal.returns-then-past_last
returns-then-past_last c = no_corner_5 _ _ c.if-past_last.true

pub returns-in-Missing : goal.returns-in-Missing
returns-in-Missing c =
    by-offset _ _ c.if-k-eq0.false c.if-past_last.false
    c.full_corner-full.result c.full_corner-full.ensures c.in-Missing.is
    c.offset_corner.result c.offset_corner.ensures

pub returns : goal.returns
returns c =
    by_full _ _ c.if-k-eq0.false c.if-past_last.false c.full_corner-full.result
    c.full_corner-full.ensures c.in_default.not-Missing
