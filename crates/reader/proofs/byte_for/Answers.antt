-- `reader::byte_for` meets its contract.
use native.Mathlib.Omega.{arith}
use mathlib.Core.Path.{sym, ap, ◌∙◌}
use lib.ListN.{get_or}
use Rattle.tagset.proofs.Laws.{Words}
use Rattle.reader.proofs.Laws.{held_below, byte_known, byte_unknown}
use Rattle.reader.proofs.byte_for.Goals as goal

pub bounds-shapes-tag : goal.bounds-shapes-tag
bounds-shapes-tag c =
    let words : Words c.args.known = record { low64 = omega (arith, c.well_formed); high64 = omega (arith, c.well_formed) } in
    held_below _ words _ (sym c.has.ensures ∙ c.if-has.true)

pub returns-then-has : goal.returns-then-has
returns-then-has c =
    let words : Words c.args.known = record { low64 = omega (arith, c.well_formed); high64 = omega (arith, c.well_formed) } in
    c.from.ensures ∙ (ap (λ l. get_or l c.args.tag 0) c.args.shapes.now.of_the_catalogue
    ∙ byte_known _ words _ (sym c.has.ensures ∙ c.if-has.true))

pub returns : goal.returns
returns c = sym (byte_unknown _ _ (sym c.has.ensures ∙ c.if-has.false))
