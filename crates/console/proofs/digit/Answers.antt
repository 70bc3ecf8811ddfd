-- `console::digit` meets its contract.
use native.Mathlib.Omega.{arith}
use Rattle.std.proofs.lemmas.Bool.Decides.{nat_tests}
use Rattle.console.specs.Word.{digit_of}
use Rattle.console.proofs.digit.Goals as goal

pub returns : goal.returns
unfolding digit_of
returns c = grind (arith, nat_tests)
