-- `listing::list` meets its contract.
use Rattle.number.proofs.Laws.{bytes_lent}
use Rattle.listing.proofs.Answers.{lists_refusal, lists_rows, listable}
use Rattle.listing.proofs.list.Goals as goal

pub invariant_of-table : goal.invariant_of-table
invariant_of-table c = record { listable = listable c.all_tags.ensures c.read.ensures c.in-Ok.is (bytes_lent c.type_inv.packet) }

pub returns-in-Err : goal.returns-in-Err
returns-in-Err c = rw (← lists_refusal c.all_tags.ensures c.read.ensures c.in-Err.is) c.list_refusal.ensures

pub returns-in-Ok : goal.returns-in-Ok
returns-in-Ok c = rw (← lists_rows c.all_tags.ensures c.read.ensures c.in-Ok.is) c.list.ensures
