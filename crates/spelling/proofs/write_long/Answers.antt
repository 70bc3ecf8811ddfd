-- `spelling::write_long` meets its contract.
use Rattle.spelling.proofs.Digits.{decimal_parts, few_left}
use Rattle.spelling.proofs.Putting.{high_room, low_room, both_wrote}
use Rattle.spelling.proofs.write_long.Goals as goal

pub write_few-after-requires : goal.write_few-after-requires
write_few-after-requires g c =
    let asked = c.requires in
    (few_left c.args.n c.args.power asked.2, high_room _ (decimal_parts g.row.K c.args.n c.args.power asked.0 asked.1 c.ranges.n.fits) asked.3)

pub write_digits-requires : goal.write_digits-requires
write_digits-requires g c =
    let asked = c.requires in
    low_room _ (decimal_parts g.row.K c.args.n c.args.power asked.0 asked.1 c.ranges.n.fits) c.write_few-after.ensures asked.3

pub returns : goal.returns
returns g c =
    let asked = c.requires in
    both_wrote _ (decimal_parts g.row.K c.args.n c.args.power asked.0 asked.1 c.ranges.n.fits) c.write_few-after.ensures c.write_digits.ensures
