-- `reader::kind_by` meets its contract.
use borrow.Author.Tests.{eq-eqb, ne_eqb}
use Rattle.reader.proofs.kind_by.Goals as goal

pub returns-then-kind-eq-CARRIED : goal.returns-then-kind-eq-CARRIED
returns-then-kind-eq-CARRIED c = rw (c.if-size-eq0.true, eq-eqb _ 4 c.if-kind-eq-CARRIED.true)

pub returns-then-size-eq0 : goal.returns-then-size-eq0
returns-then-size-eq0 c = rw (c.if-size-eq0.true, ne_eqb _ 4 c.if-kind-eq-CARRIED.false)

pub returns-then-top-eq9223372036854775808 : goal.returns-then-top-eq9223372036854775808
returns-then-top-eq9223372036854775808 c = rw (ne_eqb _ 0 c.if-size-eq0.false, c.if-top-eq9223372036854775808.true)

pub returns : goal.returns
returns c = rw (ne_eqb _ 0 c.if-size-eq0.false, ne_eqb _ _ c.if-top-eq9223372036854775808.false)
