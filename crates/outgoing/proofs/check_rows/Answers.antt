-- `outgoing::check_rows` meets its contract.
use native.Mathlib.Omega.{arith}
use mathlib.Core.Path.{sym, ◌∙◌}
use Rattle.tagset.proofs.Laws.{Words}
use Rattle.outgoing.proofs.Stages.{rows_good}
use Rattle.outgoing.proofs.check_rows.Goals as goal

pub returns-in-Some : goal.returns-in-Some
returns-in-Some c =
    let a = c.args in
    let words : Words a.known = record { low64 = omega arith; high64 = omega arith } in
    let fits = c.in-Some.ensures in
    sym (rows_good a.known words a.buffer.now a.words.now a.count a.handed (sym c.if-not-is_good.ensures) (sym c.if-not-is_good_count.ensures) fits.good
    ∙ fits.fits)

pub returns : goal.returns
returns c =
    let a = c.args in
    let words : Words a.known = record { low64 = omega arith; high64 = omega arith } in
    c.told.ensures
    ∙ sym (rows_good a.known words a.buffer.now a.words.now a.count a.handed (sym c.if-not-is_good.ensures) (sym c.if-not-is_good_count.ensures)
    (sym c.in_ok-rows_right.ensures))
