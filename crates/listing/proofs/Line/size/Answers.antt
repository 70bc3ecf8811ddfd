-- `listing::Line::size` meets its contract.
use native.Mathlib.Omega.{arith}
use Rattle.listing.proofs.Sizes.{decimal_fits, content_few}
use Rattle.listing.proofs.Texts.{line_length}
use Rattle.listing.proofs.Line.size.Goals as goal

pub overflow_add-fields : goal.overflow_add-fields
overflow_add-fields c = omega (arith, decimal_fits _ c.decimal_size.ensures, decimal_fits _ c.decimal_size-2.ensures)

pub overflow_add-fields-2 : goal.overflow_add-fields-2
overflow_add-fields-2 c = omega (arith, decimal_fits _ c.decimal_size.ensures, decimal_fits _ c.decimal_size-2.ensures)

pub overflow_add-result : goal.overflow_add-result
overflow_add-result c =
    omega (
      arith,
      decimal_fits _ c.decimal_size.ensures,
      decimal_fits _ c.decimal_size-2.ensures,
      content_few _ _ c.content_size.ensures,
    )

pub overflow_add-result-2 : goal.overflow_add-result-2
overflow_add-result-2 c =
    omega (
      arith,
      decimal_fits _ c.decimal_size.ensures,
      decimal_fits _ c.decimal_size-2.ensures,
      content_few _ _ c.content_size.ensures,
    )

pub returns : goal.returns
returns c = line_length _ _ c.place.ensures c.decimal_size.ensures c.decimal_size-2.ensures c.content_size.ensures
