-- `relay::put_item` meets its contract.
use native.Mathlib.Omega.{arith}
use mathlib.Core.Path.{ap, ◌∙◌}
use Rattle.base.specs.Putting.{put_into}
use Rattle.base.proofs.Putting.{all_wrote}
use Rattle.writer.proofs.Pieces.{tag_wrote, value_fits, item_fits, item_wrote}
use Rattle.relay.proofs.Items.{value_size, value_lent}
use Rattle.relay.proofs.put_item.Goals as goal

pub overflow_add-after : goal.overflow_add-after
overflow_add-after c =
    omega (arith, (tag_wrote _ (value_size _ c.args.item c.requires.0) c.requires.1 c.put_tag.ensures).inside, c.well_formed)

pub overflow_add-place : goal.overflow_add-place
overflow_add-place c =
    omega (arith, item_fits _ (value_size _ c.args.item c.requires.0) c.requires.1 c.put_tag.ensures c.put_length.ensures, c.well_formed)

pub overflow_add-result : goal.overflow_add-result
overflow_add-result c =
    omega (arith, item_fits _ (value_size _ c.args.item c.requires.0) c.requires.1 c.put_tag.ensures c.put_length.ensures, c.well_formed)

pub returns : goal.returns
returns c =
    let size = value_size c.args.packet.now c.args.item c.requires.0 in
    let text = value_lent c.args.packet.now c.args.item c.requires.0 in
    item_wrote _ size c.requires.1 c.put_tag.ensures c.put_length.ensures
    (all_wrote _ _ _ _ size (value_fits _ size c.requires.1 c.put_tag.ensures c.put_length.ensures) _ (c.put_text.ensures.after ∙ ap (put_into _ _) text))
