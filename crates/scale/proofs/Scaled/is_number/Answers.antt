-- `scale::Scaled::is_number` meets its contract.
use native.Mathlib.Omega.{arith}
use Prim.Native.Nat.{◌/◌}
use mathlib.Core.Path.{sym, ap, ◌∙◌}
use mathlib.Core.Bool.{not}
use lib.Dec.{eqb}
use borrow.Author.Tests.{le-ltb}
use Rattle.scale.specs.Scales.{codes}
use Rattle.scale.proofs.Items.{halved, codes_are, marked_number, unmarked_number}
use Rattle.scale.proofs.Scaled.is_number.Goals as goal

pub returns-then-codes-code : goal.returns-then-codes-code
returns-then-codes-code c =
    let a = c in
    let e = c.codes_of-codes.ensures ∙ codes_are a.args.self.item c.args.self.rule in
    rw (le-ltb a.args.code (codes a.args.self.item) (omega arith))

pub returns-then-has_mark : goal.returns-then-has_mark
returns-then-has_mark c =
    let a = c in
    let e = c.codes_of-codes.ensures ∙ codes_are a.args.self.item c.args.self.rule in
    ap (λ h. not (eqb a.args.code h)) (ap (λ x. x / 2) e ∙ halved a.args.self.item c.args.self.rule)
    ∙ marked_number a.args.self.item c.args.self.rule a.args.code (omega arith) (sym c.has_mark.ensures ∙ c.if-has_mark.true)

pub returns : goal.returns
returns c =
    let a = c in
    let e = c.codes_of-codes.ensures ∙ codes_are a.args.self.item c.args.self.rule in
    unmarked_number a.args.self.item c.args.self.rule a.args.code (omega arith) (sym c.has_mark.ensures ∙ c.if-has_mark.false)
