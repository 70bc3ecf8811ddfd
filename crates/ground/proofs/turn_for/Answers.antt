-- `ground::turn_for` meets its contract.
use mathlib.Core.Path.{◌≡◌}
use mathlib.Core.Bool.{true, false}
use borrow.Author.Rules.{rules}
use lib.IntN.{neg_ℤ}
use lib.Signed.{lt_z, le_z}
use mir.Syntax.{w64}
use mir.Val.{SFits}
use mir.Facts.{to_z-of_z}
use Rattle.ground.specs.Earth.{half_turn, turn_for}
use Rattle.ground.proofs.turn_for.Goals as goal

pub returns-then-past_east : goal.returns-then-past_east
unfolding turn_for
returns-then-past_east c =
    let fits : SFits w64 c.args.longitude = search rules in
    let past : le_z half_turn c.args.longitude ≡ true = rw (to_z-of_z fits) at c.if-past_east.true in
    rw past

pub returns-then-longitude-lt-WEST_END : goal.returns-then-longitude-lt-WEST_END
unfolding turn_for
returns-then-longitude-lt-WEST_END c =
    let fits : SFits w64 c.args.longitude = search rules in
    let short : le_z half_turn c.args.longitude ≡ false = rw (to_z-of_z fits) at c.if-past_east.false in
    let past : lt_z c.args.longitude (neg_ℤ half_turn) ≡ true = rw (to_z-of_z fits) at c.if-longitude-lt-WEST_END.true in
    rw (short, past)

pub returns : goal.returns
unfolding turn_for
returns c =
    let fits : SFits w64 c.args.longitude = search rules in
    let short : le_z half_turn c.args.longitude ≡ false = rw (to_z-of_z fits) at c.if-past_east.false in
    let inside : lt_z c.args.longitude (neg_ℤ half_turn) ≡ false = rw (to_z-of_z fits) at c.if-longitude-lt-WEST_END.false in
    rw (short, inside)
