-- `tagset::is_within` meets its contract.
use borrow.Author.Rules.{rules}
use borrow.Author.Tests.{eqb-true, eq-eqb}
use Rattle.base.proofs.Cases.{same_test}
use Rattle.tagset.proofs.Laws.{masks_within, within_low, within_high}
use Rattle.tagset.proofs.is_within.Goals as goal

pub returns-then-s-of : goal.returns-then-s-of
returns-then-s-of c =
    same_test _ _
    (λ e. masks_within _ _ (search rules) (search rules) c.if-s-of.true (eqb-true _ _ e))
    (λ e. eq-eqb _ _ (within_high _ _ (search rules) (search rules) e))

pub returns-else-s-of : goal.returns-else-s-of
returns-else-s-of c =
    same_test _ _
    (λ e. absurd (c.if-s-of.false (eqb-true _ _ e)))
    (λ e. eq-eqb _ _ (within_low _ _ (search rules) (search rules) e))
