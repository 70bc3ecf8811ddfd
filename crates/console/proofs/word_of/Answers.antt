-- `console::word_of` meets its contract.
use mathlib.Core.Path.{sym, ◌∙◌}
use native.Mathlib.Omega.{arith}
use Rattle.base.proofs.Cases.{cases}
use Rattle.console.specs.Word.{word_of}
use Rattle.console.proofs.Laws.{too_long, digit_small, word_end, word_broken, word_goes_on, grows, fits}
use Rattle.console.proofs.word_of.Goals as goal
use Rattle.console.proofs.word_of.Goals.{then-is_empty-via-then-is_empty, then-is_empty-via-else-is_empty+then-too_long}

pub returns-then-is_empty : goal.returns-then-is_empty
unfolding word_of
returns-then-is_empty c = elim c.then-is_empty.branch [
  | then-is_empty-via-then-is_empty w ↦ search cases
  | then-is_empty-via-else-is_empty+then-too_long w ↦ sym (too_long _ w.if-too_long.true)
]

pub loop-byte-init : goal.loop-byte-init
unfolding word_of
loop-byte-init c = search cases

pub overflow_mul-value : goal.overflow_mul-value
overflow_mul-value c =
    let l = c.loop-byte in
    let room = fits l.value 0 l.byte-index l.invariant.1 (omega arith) (omega arith) in
    record { fits = omega (arith, room) }

pub returns-in_err-value : goal.returns-in_err-value
returns-in_err-value c =
    let l = c.loop-byte in
    c.from_residual.ensures ∙ sym (word_broken _ l.byte-index l.value (omega arith) (sym c.digit.ensures ∙ c.in_err-value.was)) ∙ l.invariant.2

pub overflow_add-value : goal.overflow_add-value
overflow_add-value c =
    let l = c.loop-byte in
    record { fits = fits l.value _ l.byte-index l.invariant.1 (digit_small _ _ (sym c.in_ok-value.ensures)) (omega arith) }

pub loop-byte-preserved : goal.loop-byte-preserved
loop-byte-preserved c =
    let l = c.loop-byte in
    let here = sym c.in_ok-value.ensures in
    let more = grows l.value _ l.byte-index l.invariant.1 (digit_small _ _ here) in
    (omega arith, more, sym (word_goes_on _ l.byte-index l.value _ (omega arith) here) ∙ l.invariant.2)

pub returns : goal.returns
returns c = let l = c.loop-byte in sym (word_end _ l.byte-index l.value (omega arith)) ∙ l.invariant.2
