-- `listing::Line::content_size` meets its contract.
use native.Mathlib.Omega.{arith}
use Rattle.listing.proofs.Sizes.{number_few}
use Rattle.listing.proofs.Texts.{number_length, mark_length, text_length, withdrawn_length, carried_length}
use Rattle.listing.proofs.Line.content_size.Goals as goal

pub overflow_add-result : goal.overflow_add-result
overflow_add-result c = omega (arith, number_few c.args.self.now.row c.number_size.ensures)

pub returns-in-1 : goal.returns-in-1
returns-in-1 c = number_length _ _ c.in-1.is c.number_size.ensures

pub returns-in-2 : goal.returns-in-2
returns-in-2 c = mark_length _ _ c.in-2.is

pub returns-in-3 : goal.returns-in-3
returns-in-3 c = text_length _ _ c.args.self.now.inside c.length.ensures c.in-3.is

pub returns-in-5 : goal.returns-in-5
returns-in-5 c = withdrawn_length _ _ c.in-5.is

pub returns-in_default : goal.returns-in_default
returns-in_default c =
    let r = c.args.self.now.row in
    carried_length _ r c.args.self.now.inside c.length-in_default.ensures (omega arith) (omega arith) (omega arith) (omega arith)
