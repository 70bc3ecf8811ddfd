-- `scale::height_to_code` meets its contract.
use borrow.Author.Rules.{rules}
use mathlib.Core.Path.{◌≡◌, sym, ◌∙◌}
use lib.Dec.{leb}
use borrow.Author.Tests.{leb-true}
use mir.Syntax.{w64}
use mir.Val.{SFits}
use mir.Facts.{to_z-of_z}
use Rattle.base.proofs.Every.{both_left, both_right}
use Rattle.catalogue.specs.Shapes.{length_allowed}
use Rattle.scale.specs.Scales.{beyond}
use Rattle.scale.specs.Extended.{low_end, high_end}
use Rattle.scale.proofs.Classes.{height_lengths}
use Rattle.scale.proofs.Given.{height_is_sent, sent_21, sent_19}
use Rattle.scale.proofs.height_to_code.Goals as goal

pub returns-then-is_outside : goal.returns-then-is_outside
unfolding high_end low_end
returns-then-is_outside c =
    let lengths : length_allowed c.args.tag c.args.length ≡ c.is_height_length.result = height_lengths _ _ c.requires ∙ sym c.is_height_length.ensures in
    let value_fits : SFits w64 c.args.value = search rules in
    let outside_is : beyond low_end high_end c.args.value ≡ c.is_outside.result = sym (rw (to_z-of_z (value_fits)) at c.is_outside.ensures) in
    let n = c in
    let l = n in
    rw (sent_21 _ _ l.requires _ (lengths ∙ n.if-is_height_length.true) (outside_is ∙ c.if-is_outside.true)) c.refused.ensures

pub height_code-requires : goal.height_code-requires
unfolding high_end low_end
height_code-requires c =
    let value_fits : SFits w64 c.args.value = search rules in
    let outside_is : beyond low_end high_end c.args.value ≡ c.is_outside.result = sym (rw (to_z-of_z (value_fits)) at c.is_outside.ensures) in
    let n = c in
    let l = n in
    let length = l.args.length in
    let e = sym l.is_height_length.ensures ∙ n.if-is_height_length.true in
    rw (to_z-of_z (value_fits))
    record {
      lengths = (leb-true 2 length (both_left (leb 2 length) _ e), leb-true length 4 (both_right (leb 2 length) _ e));
      inside =
          outside_is ∙ c.if-is_outside.false;
    }

pub returns-then-is_height_length : goal.returns-then-is_height_length
unfolding high_end low_end
returns-then-is_height_length c =
    let lengths : length_allowed c.args.tag c.args.length ≡ c.is_height_length.result = height_lengths _ _ c.requires ∙ sym c.is_height_length.ensures in
    let value_fits : SFits w64 c.args.value = search rules in
    let outside_is : beyond low_end high_end c.args.value ≡ c.is_outside.result = sym (rw (to_z-of_z (value_fits)) at c.is_outside.ensures) in
    let n = c in
    let l = n in
    rw (
      height_is_sent _ _ l.requires _ (lengths ∙ n.if-is_height_length.true) (outside_is ∙ c.if-is_outside.false),
      rw (to_z-of_z (value_fits)) at c.height_code.ensures,
    )

pub returns : goal.returns
returns c =
    let lengths : length_allowed c.args.tag c.args.length ≡ c.is_height_length.result = height_lengths _ _ c.requires ∙ sym c.is_height_length.ensures in
    let l = c in
    rw (sent_19 _ _ l.requires _ (lengths ∙ c.if-is_height_length.false)) c.refused-2.ensures
