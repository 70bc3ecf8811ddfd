-- `ber::length_form` meets its contract.
use mathlib.Core.Path.{sym, ◌∙◌}
use native.Mathlib.Omega.{arith}
use Rattle.number.specs.Stored.{bytes_of}
use Rattle.ber.proofs.Forms.{length_one, length_two, length_three, length_four, length_five, length_large, one_code, long_code}
use Rattle.ber.proofs.length_form.Goals as goal

pub returns-then-x-lt128 : goal.returns-then-x-lt128
returns-then-x-lt128 c = one_code _ (omega arith) ∙ sym (length_one _ (omega arith))

pub returns-then-x-lt256 : goal.returns-then-x-lt256
returns-then-x-lt256 c = long_code 1 _ (omega arith) (omega arith) ∙ sym (length_two _ (omega arith) (omega arith))

pub returns-then-x-lt65536 : goal.returns-then-x-lt65536
returns-then-x-lt65536 c = long_code 2 _ (omega arith) (omega arith) ∙ sym (length_three _ (omega arith) (omega arith))

pub returns-then-x-lt16777216 : goal.returns-then-x-lt16777216
returns-then-x-lt16777216 c = long_code 3 _ (omega arith) (omega arith) ∙ sym (length_four _ (omega arith) (omega arith))

pub returns-then-x-lt4294967296 : goal.returns-then-x-lt4294967296
returns-then-x-lt4294967296 c = long_code 4 _ (omega arith) (omega arith) ∙ sym (length_five _ (omega arith) (omega arith))

pub returns : goal.returns
unfolding bytes_of
returns c = sym (length_large _ c.if-x-lt4294967296.false)
