-- `packet::judged` meets its contract.
use mathlib.Core.Path.{sym, ◌∙◌}
use native.Mathlib.Omega.{arith}
use Rattle.number.proofs.Laws.{bytes_lent}
use Rattle.tagset.proofs.Laws.{Words}
use Rattle.packet.proofs.Ahead.{not_refused}
use Rattle.packet.proofs.Judging.{judges_begin, judges_end, judges_wrong, judges_clean}
use Rattle.packet.proofs.Walks.{header_lies}
use Rattle.packet.proofs.judged.Goals as goal

pub loop-here-init : goal.loop-here-init
loop-here-init c = judges_begin _ _ _ c.requires

pub returns-in_err-item : goal.returns-in_err-item
returns-in_err-item c = not_refused _ _ c.loop-here.invariant.ahead c.loop-here-test.true _ _ _ (sym c.in_err-item.ensures)

pub fault_at-requires : goal.fault_at-requires
fault_at-requires c = (header_lies _ _ (bytes_lent c.type_inv.packet) _ (sym c.in_ok-item.ensures)).inside

pub returns-in-Err : goal.returns-in-Err
returns-in-Err c =
    let words : Words c.args.known = record { low64 = omega arith; high64 = omega arith } in
    c.refused.ensures
    ∙ judges_wrong _ words _ _ _ _ c.loop-here.invariant c.loop-here-test.true _ (sym c.in_ok-item.ensures) _ c.in-Err.ensures

pub overflow_add-here : goal.overflow_add-here
overflow_add-here c = let l = header_lies _ _ (bytes_lent c.type_inv.packet) _ (sym c.in_ok-item.ensures) in omega (arith, l.inside)

pub loop-here-smaller : goal.loop-here-smaller
loop-here-smaller c = let l = header_lies _ _ (bytes_lent c.type_inv.packet) _ (sym c.in_ok-item.ensures) in omega (arith, l)

pub loop-here-preserved : goal.loop-here-preserved
loop-here-preserved c =
    let words : Words c.args.known = record { low64 = omega arith; high64 = omega arith } in
    rw c.with_tag-seen.ensures
    (judges_clean _ words _ _ _ _ c.loop-here.invariant c.loop-here-test.true _ (sym c.in_ok-item.ensures) c.in_default.ensures)

pub returns-then-has : goal.returns-then-has
returns-then-has c =
    let words : Words c.args.known = record { low64 = omega arith; high64 = omega arith } in
    rw (sym c.has.ensures ∙ c.if-has.true) at (judges_end _ words _ _ _ _ c.loop-here.invariant c.loop-here-test.false)

pub returns : goal.returns
returns c =
    let words : Words c.args.known = record { low64 = omega arith; high64 = omega arith } in
    c.refused-2.ensures ∙ rw (sym c.has.ensures ∙ c.if-has.false) at (judges_end _ words _ _ _ _ c.loop-here.invariant c.loop-here-test.false)
