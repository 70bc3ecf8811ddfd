-- `ber::tag_form` meets its contract.
use mathlib.Core.Path.{sym, ◌∙◌}
use native.Mathlib.Omega.{arith}
use Rattle.number.specs.Stored.{bytes_of}
use Rattle.ber.proofs.Forms.{tag_none, tag_one, tag_two, tag_three, tag_large, one_code, two_code, three_code}
use Rattle.ber.proofs.tag_form.Goals as goal

pub returns-then-tag-eq0 : goal.returns-then-tag-eq0
unfolding bytes_of
returns-then-tag-eq0 c = sym (tag_none _ c.if-tag-eq0.true)

pub returns-then-tag-lt128 : goal.returns-then-tag-lt128
returns-then-tag-lt128 c = one_code _ (omega arith) ∙ sym (tag_one _ (omega arith) (omega arith))

pub returns-then-tag-lt16384 : goal.returns-then-tag-lt16384
returns-then-tag-lt16384 c = two_code _ _ (omega arith) (omega arith) ∙ sym (tag_two _ (omega arith) (omega arith))

pub returns-then-tag-lt2097152 : goal.returns-then-tag-lt2097152
returns-then-tag-lt2097152 c = three_code _ _ _ (omega arith) (omega arith) (omega arith) ∙ sym (tag_three _ (omega arith) (omega arith))

pub returns : goal.returns
unfolding bytes_of
returns c = sym (tag_large _ c.if-tag-lt2097152.false)
