use Rattle.std.proofs.Common.{◌≡◌, replicate}
use Rattle.records.specs.Images.{images_into}
use Rattle.records.proofs.table_of.Given as goal

abbrev pub invariant-loop-n : goal.invariant-loop-n
invariant-loop-n l = l.table ≡ images_into l.n l.records (replicate 512 0)
