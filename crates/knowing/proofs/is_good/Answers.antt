-- `knowing::is_good` meets its contract.
use mathlib.Core.Path.{◌≡◌, sym, ap, ◌∙◌}
use mathlib.Core.Bool.{true}
use borrow.Author.Rules.{rules}
use Rattle.base.proofs.Cases.{by_bool, same_test}
use Rattle.tagset.specs.Sets.{within}
use Rattle.tagset.proofs.Laws.{Words}
use Rattle.catalogue.specs.Rows.{all_tags}
use Rattle.knowing.specs.Good.{good}
use Rattle.knowing.proofs.Laws.{least, good_means, means_good, good_least, good_all, within_good}
use Rattle.knowing.proofs.is_good.Goals as goal

pub returns-then-is_within : goal.returns-then-is_within
returns-then-is_within c =
    let s = c.args.s in
    let w : Words s = search rules in
    let first : within least s ≡ true = sym c.is_within.ensures ∙ c.if-is_within.true in
    let second : c.is_within-then-is_within.result ≡ within s all_tags = c.is_within-then-is_within.ensures ∙ ap (within s) c.all_tags.ensures in
    second ∙ same_test (within s all_tags) (good s)
    (λ e. means_good s (within_good s w first e))
    (λ e. good_all s (good_means s w e))

pub returns-else-is_within : goal.returns-else-is_within
returns-else-is_within c =
    let s = c.args.s in
    let w : Words s = search rules in
    c.if-is_within.false ∙ by_bool (good s)
    (λ e. sym (sym (good_least s (good_means s w e)) ∙ (sym c.is_within.ensures ∙ c.if-is_within.false)) ∙ sym e)
    (λ e. sym e)
