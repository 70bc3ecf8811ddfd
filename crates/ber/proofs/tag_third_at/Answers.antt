-- `ber::tag_third_at` meets its contract.
use Rattle.base.proofs.Cases.{cases}
use Rattle.base.proofs.Parts.{byte_at, nil_at}
use Rattle.ber.specs.Read.{tag_third}
use Rattle.ber.proofs.tag_third_at.Goals as goal

pub returns-then-s-at : goal.returns-then-s-at
unfolding tag_third
returns-then-s-at c = rw (nil_at _ _ c.if-s-at.true)

pub returns-then-c-lt128 : goal.returns-then-c-lt128
unfolding tag_third
returns-then-c-lt128 c = rw (byte_at _ _ c.from-c.ensures c.if-s-at.false) (search cases)

pub returns : goal.returns
unfolding tag_third
returns c = rw (byte_at _ _ c.from-c.ensures c.if-s-at.false) (search cases)
