-- `listing::list_accepted` meets its contract.
use Rattle.refusal.proofs.Answers.{handed_on}
use Rattle.number.proofs.Laws.{bytes_lent}
use Rattle.listing.proofs.Answers.{refuses_list, lists_accepted, listable}
use Rattle.listing.proofs.list_accepted.Goals as goal

pub returns-in_err-filled : goal.returns-in_err-filled
returns-in_err-filled c =
    refuses_list c.all_tags.ensures c.read.ensures c.in_err-filled.was _ _ (handed_on _ _ c.from_residual.ensures.1 (λ s q. q))

pub invariant_of-table : goal.invariant_of-table
invariant_of-table c =
    record { listable = listable c.all_tags.ensures c.read.ensures c.in_ok-filled.was (bytes_lent c.type_inv.packet) }

pub returns : goal.returns
returns c = lists_accepted c.all_tags.ensures c.read.ensures c.in_ok-filled.was c.list.ensures
