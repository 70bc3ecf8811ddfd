-- `packet::check_from` meets its contract.
use mathlib.Core.Path.{sym, ◌∙◌}
use native.Mathlib.Omega.{arith}
use Rattle.refusal.proofs.Answers.{not_given, handed_on}
use Rattle.number.proofs.Laws.{bytes_lent}
use Rattle.tagset.proofs.Laws.{Words}
use Rattle.packet.proofs.Concluding.{passes_whole, passes_refused, right_refused, right_given, places_items}
use Rattle.packet.proofs.check_from.Goals as goal

pub returns-then-passed-packet : goal.returns-then-passed-packet
returns-then-passed-packet c =
    record {
      says = sym (passes_refused _ _ _ _ c.requires _ c.passed_from-passed.ensures _ _ _ c.stopped.ensures);
      places = λ a f. not_given f;
    }

pub concluded-requires : goal.concluded-requires
concluded-requires c = passes_whole _ _ _ _ c.requires _ c.passed_from-passed.ensures c.if-passed-packet.false

pub returns-in_err-concluded : goal.returns-in_err-concluded
returns-in_err-concluded c =
    let words : Words c.args.known = record { low64 = omega arith; high64 = omega arith } in
    let w = passes_whole _ _ _ _ c.requires _ c.passed_from-passed.ensures c.if-passed-packet.false in
    let e = handed_on _ _ c.from_residual.ensures.1 (λ s q. q) in
    record {
      says = e ∙ sym (right_refused _ words _ (bytes_lent c.type_inv.packet) _ _ w _ _ _ (sym c.in_err-concluded.ensures));
      places = λ a f. not_given (sym e ∙ f);
    }

pub returns : goal.returns
returns c =
    let words : Words c.args.known = record { low64 = omega arith; high64 = omega arith } in
    let bytes = bytes_lent c.type_inv.packet in
    let w = passes_whole _ _ _ _ c.requires _ c.passed_from-passed.ensures c.if-passed-packet.false in
    record {
      says = rw (c.as_set.ensures, c.as_set-2.ensures) (sym (right_given _ words _ bytes _ _ w (sym c.in_ok-concluded.ensures)));
      places = λ a f. places_items _ words _ bytes _ _ w;
    }
