-- `listing::list_refusal` meets its contract.
use mathlib.Core.Path.{refl, ◌∙◌}
use native.Mathlib.Nat.{zero-add}
use native.Mathlib.Omega.{arith}
use Rattle.base.proofs.Putting.{front_room}
use Rattle.listing.proofs.Sizes.{decimal_fits}
use Rattle.listing.proofs.Answers.{does_not_fit, fits, refusal_long}
use Rattle.listing.proofs.list_refusal.Goals as goal

pub overflow_add-numbers : goal.overflow_add-numbers
overflow_add-numbers c = omega (arith, decimal_fits _ c.decimal_size.ensures, decimal_fits _ c.decimal_size-2.ensures)

pub overflow_add-size : goal.overflow_add-size
overflow_add-size c =
    omega (
      arith,
      decimal_fits _ c.decimal_size.ensures,
      decimal_fits _ c.decimal_size-2.ensures,
      decimal_fits _ c.decimal_size-3.ensures,
    )

pub overflow_add-size-2 : goal.overflow_add-size-2
overflow_add-size-2 c =
    omega (
      arith,
      decimal_fits _ c.decimal_size.ensures,
      decimal_fits _ c.decimal_size-2.ensures,
      decimal_fits _ c.decimal_size-3.ensures,
    )

pub returns-then-out-size : goal.returns-then-out-size
returns-then-out-size c =
    let long = refusal_long _ _ _ c.decimal_size.ensures c.decimal_size-2.ensures c.decimal_size-3.ensures in
    rw (← c.number_of-n.ensures) (does_not_fit long c.if-out-size.true c.refused.ensures)

pub put_refusal-requires : goal.put_refusal-requires
put_refusal-requires c = front_room (refusal_long _ _ _ c.decimal_size.ensures c.decimal_size-2.ensures c.decimal_size-3.ensures) c.if-out-size.false

pub returns : goal.returns
returns c =
    rw (← c.number_of-n.ensures) (fits (c.put_refusal.ensures.after ∙ zero-add _) refl c.put_refusal.ensures)
