-- `ber::tag_at` meets its contract.
use Rattle.base.proofs.Cases.{cases}
use Rattle.base.proofs.Parts.{byte_at, nil_at}
use Rattle.ber.specs.Read.{read_tag}
use Rattle.ber.proofs.tag_at.Goals as goal

pub returns-then-s-at : goal.returns-then-s-at
unfolding read_tag
returns-then-s-at c = rw (nil_at _ _ c.if-s-at.true)

pub returns-then-some : goal.returns-then-some
unfolding read_tag
returns-then-some c = rw (byte_at _ _ c.from-a.ensures c.if-s-at.false) (search cases)

pub returns-then-a-lt128 : goal.returns-then-a-lt128
unfolding read_tag
returns-then-a-lt128 c = rw (byte_at _ _ c.from-a.ensures c.if-s-at.false) (search cases)

pub returns-then-a-le128 : goal.returns-then-a-le128
unfolding read_tag
returns-then-a-le128 c = rw (byte_at _ _ c.from-a.ensures c.if-s-at.false) (search cases)

pub returns : goal.returns
unfolding read_tag
returns c = rw (byte_at _ _ c.from-a.ensures c.if-s-at.false) (search cases)
