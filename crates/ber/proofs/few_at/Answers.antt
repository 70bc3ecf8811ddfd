-- `ber::few_at` meets its contract.
use Prim.Native.Nat.{ℕ, ◌+◌, ◌*◌, ◌≤◌}
use mathlib.Core.Path.{◌≡◌, sym, ap, ◌∙◌}
use mathlib.Core.List.{List}
use native.Mathlib.Omega.{arith}
use lib.ListN.{length, get_or, take, drop}
use Rattle.number.specs.Stored.{value_of}
use Rattle.number.proofs.Widths.{one_taken, one-more}
use Rattle.ber.proofs.few_at.Goals as goal

-- what one byte after another says
module _ (s : List ℕ) (at : ℕ) where
  one : {a : ℕ} → at + 1 ≤ length s → a ≡ get_or s at 0 → a ≡ value_of (take 1 (drop at s))
  one h e = e ∙ sym (one_taken at s h)

  two : {a b : ℕ} → at + 2 ≤ length s → a ≡ get_or s at 0 → b ≡ get_or s (at + 1) 0 → a * 256 + b ≡ value_of (take 2 (drop at s))
  two {a} h e f = one-more 1 at s (omega arith) (one (omega arith) e) (ap (λ x. a * 256 + x) f)

  three : {a b c : ℕ} → at + 3 ≤ length s → a ≡ get_or s at 0 → b ≡ get_or s (at + 1) 0 → c ≡ get_or s (at + 2) 0
      → (a * 256 + b) * 256 + c ≡ value_of (take 3 (drop at s))
  three {a} {b} h e f g = one-more 2 at s (omega arith) (two (omega arith) e f) (ap (λ x. (a * 256 + b) * 256 + x) g)

  four : {a b c d : ℕ} → at + 4 ≤ length s → a ≡ get_or s at 0 → b ≡ get_or s (at + 1) 0 → c ≡ get_or s (at + 2) 0 → d ≡ get_or s (at + 3) 0
      → ((a * 256 + b) * 256 + c) * 256 + d ≡ value_of (take 4 (drop at s))
  four {a} {b} {c} h e f g i = one-more 3 at s (omega arith) (three (omega arith) e f g) (ap (λ x. ((a * 256 + b) * 256 + c) * 256 + x) i)

pub returns-then-count-eq1 : goal.returns-then-count-eq1
returns-then-count-eq1 c = rw c.if-count-eq1.true (one c.args.s.now c.args.at (omega (arith, c.requires)) c.from-one.ensures)

pub returns-then-count-eq2 : goal.returns-then-count-eq2
returns-then-count-eq2 c = rw c.if-count-eq2.true (two c.args.s.now c.args.at (omega (arith, c.requires)) c.from-one.ensures c.from.ensures)

pub returns-then-count-eq3 : goal.returns-then-count-eq3
returns-then-count-eq3 c =
    rw c.if-count-eq3.true (three c.args.s.now c.args.at (omega (arith, c.requires)) c.from-one.ensures c.from.ensures c.from-2.ensures)

pub returns : goal.returns
returns c =
    let n : c.args.count ≡ 4 = omega (arith, c.requires) in
    rw n (four c.args.s.now c.args.at (omega (arith, c.requires)) c.from-one.ensures c.from.ensures c.from-2.ensures c.from-3.ensures)
