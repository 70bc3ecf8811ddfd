-- The worked values hold of the definitions.
-- Assumes nothing.
use mathlib.Core.Path.{◌≡◌, refl}
use mathlib.Core.Bool.{true}
use Rattle.base.specs.Every.{all}
use Rattle.number.specs.Stored.{value_from}
use Rattle.ber.specs.Read.{read_tag, tag_second, tag_third, read_length}
use Rattle.checksum.specs.Sum.{weighed}
use Rattle.tagset.specs.Sets.{holds, with_tag, same}
use Rattle.catalogue.specs.Items.{groups, member, item_in, item_of}
use Rattle.catalogue.specs.Extended.{is_extended, in_reach}
use Rattle.catalogue.specs.Shapes.{shape_of, length_allowed, is_needed, code_allowed}
use Rattle.catalogue.specs.Rows.{rows, rows_from, all_tags}
use Rattle.knowing.specs.Good.{in_catalogue, good}
use Rattle.scale.specs.Nearest.{nearest}
use Rattle.scale.specs.Scales.{codes, half, origin, reach, steps}
use Rattle.scale.specs.Extended.{low_end, high_end, extended_house, extended_code}
use Rattle.scale.specs.Conversions.{house_of, to_house, code_of, to_code}
use Rattle.rows.specs.Present.{words_from, present_in, withdrawn_in}
use Rattle.rows.specs.Taken.{row_good}
use Rattle.packet.specs.Pieces.{read_item, walk}
use Rattle.packet.specs.Ends.{right_ends}
use Rattle.packet.specs.Structure.{key, frame, right_sum, structure}
use Rattle.packet.specs.Judge.{fault_of, judge_from, judge}
use Rattle.packet.specs.Verdict.{verdict}
use Rattle.packet.specs.Rows.{shape_for, row_of, rows_of, words, table_of, lent_verdict, read_answer, read_table}
use Rattle.ground.specs.Values.{value_by, value_for}
use Rattle.ground.specs.Earth.{turn_for}
use Rattle.ground.specs.Ground.{full_corner, offset_corner, plain_corner, corner_in}
use Rattle.worked.specs.Values.{right, packet, fleet, versionless, values}

pub all_right : all right values ≡ true
unfolding values read_length value_from groups member item_in item_of codes half origin reach steps nearest house_of to_house code_of to_code
    is_extended in_reach length_allowed low_end high_end extended_house extended_code
    read_tag tag_second tag_third weighed holds shape_of code_allowed rows rows_from all_tags in_catalogue good
    read_item walk key frame right_ends right_sum structure fault_of judge_from judge verdict
    shape_for row_of rows_of words table_of lent_verdict read_answer read_table words_from present_in withdrawn_in with_tag same packet fleet versionless is_needed row_good
    value_by value_for turn_for full_corner offset_corner plain_corner corner_in
all_right = refl
