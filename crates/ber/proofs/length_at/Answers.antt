-- `ber::length_at` meets its contract.
use native.Mathlib.Omega.{arith}
use lib.ListN.{length-drop}
use Rattle.base.proofs.Cases.{cases}
use Rattle.base.proofs.Parts.{byte_at, nil_at}
use Rattle.ber.specs.Read.{read_length}
use Rattle.ber.proofs.length_at.Goals as goal

pub returns-then-s-at : goal.returns-then-s-at
unfolding read_length
returns-then-s-at c = rw (nil_at _ _ c.if-s-at.true)

pub returns-then-a-lt128 : goal.returns-then-a-lt128
unfolding read_length
returns-then-a-lt128 c = rw (byte_at _ _ c.from-a.ensures c.if-s-at.false) (search cases)

pub returns-then-a-le128 : goal.returns-then-a-le128
unfolding read_length
returns-then-a-le128 c = rw (byte_at _ _ c.from-a.ensures c.if-s-at.false) (search cases)

pub returns-then-a-gt132 : goal.returns-then-a-gt132
unfolding read_length
returns-then-a-gt132 c = rw (byte_at _ _ c.from-a.ensures c.if-s-at.false) (search cases)

pub returns-then-s-from : goal.returns-then-s-from
unfolding read_length
returns-then-s-from c = rw (byte_at _ _ c.from-a.ensures c.if-s-at.false, length-drop) (search cases)

pub few_at-requires : goal.few_at-requires
few_at-requires c = (omega arith, omega arith, omega arith)

pub returns : goal.returns
unfolding read_length
returns c = rw (byte_at _ _ c.from-a.ensures c.if-s-at.false, length-drop, ← c.few_at.ensures) (search cases)
