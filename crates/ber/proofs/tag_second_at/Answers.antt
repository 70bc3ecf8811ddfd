-- `ber::tag_second_at` meets its contract.
use Rattle.base.proofs.Cases.{cases}
use Rattle.base.proofs.Parts.{byte_at, nil_at}
use Rattle.ber.specs.Read.{tag_second}
use Rattle.ber.proofs.tag_second_at.Goals as goal

pub returns-then-s-at : goal.returns-then-s-at
unfolding tag_second
returns-then-s-at c = rw (nil_at _ _ c.if-s-at.true)

pub returns-then-b-lt128 : goal.returns-then-b-lt128
unfolding tag_second
returns-then-b-lt128 c = rw (byte_at _ _ c.from-b.ensures c.if-s-at.false) (search cases)

pub returns : goal.returns
unfolding tag_second
returns c = rw (byte_at _ _ c.from-b.ensures c.if-s-at.false) (search cases)
