-- `ber::put_tag` meets its contract.
use Rattle.ber.proofs.Forms.{tag_one}
use Rattle.ber.proofs.put_tag.Goals as goal

pub returns-then-tag-lt128 : goal.returns-then-tag-lt128
returns-then-tag-lt128 c = rw (tag_one _ c.if-tag-gt0.true c.if-tag-lt128.true) c.put_short.ensures

pub returns : goal.returns
returns c = rw (← c.tag_form.ensures) c.put_form.ensures
