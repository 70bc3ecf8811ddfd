-- `ber::tag_size` meets its contract.
use mathlib.Core.Path.{sym, ◌∙◌, ap}
use lib.ListN.{length}
use Rattle.number.proofs.Laws.{length_bytes_of}
use Rattle.ber.proofs.tag_size.Goals as goal

pub returns : goal.returns
returns c = sym (length_bytes_of _ _) ∙ ap length c.tag_form.ensures
