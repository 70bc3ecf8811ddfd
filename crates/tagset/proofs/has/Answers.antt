-- `tagset::has` meets its contract.
use mathlib.Core.Path.{ap, sym, ◌∙◌}
use borrow.Author.Rules.{rules}
use lib.Dec.{eqb}
use Rattle.tagset.proofs.Words.{and_one}
use Rattle.tagset.proofs.Laws.{holds_low, holds_high, holds_none}
use Rattle.tagset.proofs.has.Goals as goal

pub returns-then-tag-lt64 : goal.returns-then-tag-lt64
returns-then-tag-lt64 c = ap (λ x. eqb x 1) (and_one _) ∙ sym (holds_low _ (search rules) _ c.if-tag-lt64.true)

pub returns-then-tag-lt128 : goal.returns-then-tag-lt128
returns-then-tag-lt128 c = ap (λ x. eqb x 1) (and_one _) ∙ sym (holds_high _ (search rules) _ c.if-tag-lt64.false)

pub returns : goal.returns
returns c = sym (holds_none _ (search rules) _ c.if-tag-lt128.false)
