-- `scale::height_code` meets its contract.
use borrow.Author.Rules.{rules}
use Prim.Native.Nat.{◌*◌, ◌%◌, ◌^◌}
use native.Mathlib.Omega.{arith}
use native.Mathlib.Nat.{mod-eq_of_lt}
use mathlib.Core.Path.{◌≡◌}
use lib.IntN.{nat_abs, ◌-ℤ◌}
use lib.Signed.{lt_z}
use mir.Syntax.{w64}
use mir.Val.{SFits}
use mir.Facts.{to_z-of_z}
use Rattle.catalogue.specs.Extended.{per_two_metres}
use Rattle.scale.specs.Extended.{low_end, extended_code}
use Rattle.scale.proofs.Items.{neither_left}
use Rattle.scale.proofs.Extended.{ends_small, product_small}
use Rattle.scale.proofs.height_code.Goals as goal

pub up_to-far-requires : goal.up_to-far-requires
unfolding low_end
up_to-far-requires c =
    let value_fits : SFits w64 c.args.value = search rules in
    rw (to_z-of_z (value_fits)) (neither_left (lt_z c.args.value low_end) _ c.requires.inside, omega arith, ends_small c.args.value c.requires.inside)

pub whole_steps-requires : goal.whole_steps-requires
unfolding low_end
whole_steps-requires c =
    let value_fits : SFits w64 c.args.value = search rules in
    let parts : let a = c in (c.up_to-far.result * 2 ^ c.fineness.result) % 18446744073709551616
    ≡ nat_abs (a.args.value -ℤ low_end) * per_two_metres a.args.length =
    (let a = c in rw (
      c.fineness.ensures,
      rw (to_z-of_z (value_fits)) at c.up_to-far.ensures,
    ) (mod-eq_of_lt (omega (
      arith,
      product_small a.args.length a.args.value a.requires.lengths.1 a.requires.inside,
    )))) in
    let a = c in
    rw (parts) (product_small a.args.length a.args.value a.requires.lengths.1 a.requires.inside)

pub returns : goal.returns
unfolding extended_code low_end
returns c =
    let value_fits : SFits w64 c.args.value = search rules in
    let parts : let a = c in (c.up_to-far.result * 2 ^ c.fineness.result) % 18446744073709551616
    ≡ nat_abs (a.args.value -ℤ low_end) * per_two_metres a.args.length =
    (let a = c in rw (
      c.fineness.ensures,
      rw (to_z-of_z (value_fits)) at c.up_to-far.ensures,
    ) (mod-eq_of_lt (omega (
      arith,
      product_small a.args.length a.args.value a.requires.lengths.1 a.requires.inside,
    )))) in
    rw (c.whole_steps.ensures, parts)
