-- `checksum::checksum` meets its contract.
use Rattle.std.proofs.Common.{ap, arith}
use Rattle.base.proofs.Parts.{to_the_end}
use Rattle.checksum.specs.Sum.{weighed}
use Rattle.checksum.proofs.Laws.{weighed_none, first_even}
use Rattle.checksum.proofs.checksum.Goals as goal

pub returns-in-empty : goal.returns-in-empty
returns-in-empty c = omega (arith, weighed_none 0 c.args.s.now)

pub returns-in-len1-up : goal.returns-in-len1-up
returns-in-len1-up c =
    let s = c.args.s.now in
    omega (arith, first_even s (omega arith), ap (weighed 1) (to_the_end s 1))
