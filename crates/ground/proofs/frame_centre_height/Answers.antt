-- `ground::frame_centre_height` meets its contract.
use mathlib.Core.Path.{sym, ap, ◌∙◌}
use native.Mathlib.Omega.{arith}
use Rattle.refusal.specs.Answer.{given, map}
use Rattle.refusal.proofs.Answers.{handed_on}
use Rattle.number.proofs.Laws.{bytes_lent}
use Rattle.tagset.proofs.Laws.{Words}
use Rattle.ground.specs.Said.{height_said}
use Rattle.ground.specs.Ground.{height_in}
use Rattle.ground.proofs.Located.{refused_so, placed_so, held_so}
use Rattle.ground.proofs.Alike.{like_78, like_25}
use Rattle.ground.proofs.frame_centre_height.Goals as goal

pub returns-in_err-located : goal.returns-in_err-located
returns-in_err-located c =
    ap (map height_said) (handed_on _ _ c.from_residual.ensures.1 (λ s q. q)) ∙ refused_so (height_in 78 25) _ _ _ (sym c.in_err-located.ensures)

pub height_in-requires : goal.height_in-requires
height_in-requires c = (like_78, like_25)

pub invariant_of-found : goal.invariant_of-found
invariant_of-found c =
    let words : Words c.args.known = record { low64 = omega (arith, c.well_formed); high64 = omega (arith, c.well_formed) } in
    record { placed = placed_so _ _ _ words (bytes_lent c.type_inv.packet) (sym c.in_ok-located.ensures) }

pub returns : goal.returns
returns c = ap given c.height_in.ensures ∙ held_so (height_in 78 25) _ _ _ (sym c.in_ok-located.ensures)
