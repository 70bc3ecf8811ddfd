-- `scale::height_of` meets its contract.
use borrow.Author.Rules.{rules}
use Prim.Native.Nat.{◌+◌, ◌*◌, ◌/◌, ◌%◌, ◌^◌, ◌<◌, ◌≤◌}
use native.Mathlib.Omega.{arith}
use native.Mathlib.Nat.{one-mul, mod-eq_of_lt}
use mathlib.Core.Path.{◌≡◌, ap, ◌∙◌}
use lib.Dec.{leb}
use borrow.Author.Tests.{leb-true}
use mir.Syntax.{w64}
use mir.Val.{SFits}
use mir.Facts.{to_z-of_z}
use Rattle.base.proofs.Every.{both_left, both_right}
use Rattle.catalogue.specs.Extended.{per_two_metres}
use Rattle.scale.specs.Nearest.{nearest}
use Rattle.scale.specs.Extended.{low_end, extended_house}
use Rattle.scale.proofs.Nearest.{cut_with_half}
use Rattle.scale.proofs.Extended.{reach_length, some_codes, few_codes, code_small, shown, shown_few}
use Rattle.scale.proofs.height_of.Goals as goal

pub fineness-shift-requires : goal.fineness-shift-requires
fineness-shift-requires c =
    let lengths : (2 ≤ c.args.length) × (c.args.length ≤ 4) =
    (let n = c.args.length in let e = reach_length n c.args.code c.requires in
    (leb-true 2 n (both_left (leb 2 n) _ e), leb-true n 4 (both_right (leb 2 n) _ e))) in
    lengths

pub overflow_mul-units : goal.overflow_mul-units
overflow_mul-units c = record { fits = omega (arith, code_small c.args.length c.args.code c.requires) }

pub overflow_shl-shift : goal.overflow_shl-shift
overflow_shl-shift c =
    let lengths : (2 ≤ c.args.length) × (c.args.length ≤ 4) =
    (let n = c.args.length in let e = reach_length n c.args.code c.requires in
    (leb-true 2 n (both_left (leb 2 n) _ e), leb-true n 4 (both_right (leb 2 n) _ e))) in
    let narrow : c.fineness-shift.result < 64 = omega (arith, c.fineness-shift.ensures, lengths.1) in
    narrow

pub half_of-requires : goal.half_of-requires
half_of-requires c =
    let lengths : (2 ≤ c.args.length) × (c.args.length ≤ 4) =
    (let n = c.args.length in let e = reach_length n c.args.code c.requires in
    (leb-true 2 n (both_left (leb 2 n) _ e), leb-true n 4 (both_right (leb 2 n) _ e))) in
    let per : (1 * 2 ^ c.fineness-shift.result) % 18446744073709551616 ≡ per_two_metres c.args.length =
    (let n = c.args.length in rw (one-mul, c.fineness-shift.ensures) (mod-eq_of_lt (omega (arith, few_codes n lengths.1)))) in
    rw (per) (some_codes c.args.length)

pub overflow_add-units : goal.overflow_add-units
overflow_add-units c =
    let lengths : (2 ≤ c.args.length) × (c.args.length ≤ 4) =
    (let n = c.args.length in let e = reach_length n c.args.code c.requires in
    (leb-true 2 n (both_left (leb 2 n) _ e), leb-true n 4 (both_right (leb 2 n) _ e))) in
    let per : (1 * 2 ^ c.fineness-shift.result) % 18446744073709551616 ≡ per_two_metres c.args.length =
    (let n = c.args.length in rw (one-mul, c.fineness-shift.ensures) (mod-eq_of_lt (omega (arith, few_codes n lengths.1)))) in
    let half_is : c.half_of.result ≡ per_two_metres c.args.length / 2 = c.half_of.ensures ∙ ap (λ x. x / 2) (per) in
    let a = c in
    record { fits = omega (arith, half_is, few_codes a.args.length lengths.1, code_small a.args.length a.args.code a.requires) }

pub overflow_shr-units : goal.overflow_shr-units
overflow_shr-units c =
    let lengths : (2 ≤ c.args.length) × (c.args.length ≤ 4) =
    (let n = c.args.length in let e = reach_length n c.args.code c.requires in
    (leb-true 2 n (both_left (leb 2 n) _ e), leb-true n 4 (both_right (leb 2 n) _ e))) in
    let narrow : c.fineness-shift.result < 64 = omega (arith, c.fineness-shift.ensures, lengths.1) in
    narrow

pub placed-requires : goal.placed-requires
unfolding shown
placed-requires c =
    let lengths : (2 ≤ c.args.length) × (c.args.length ≤ 4) =
    (let n = c.args.length in let e = reach_length n c.args.code c.requires in
    (leb-true 2 n (both_left (leb 2 n) _ e), leb-true n 4 (both_right (leb 2 n) _ e))) in
    let per : (1 * 2 ^ c.fineness-shift.result) % 18446744073709551616 ≡ per_two_metres c.args.length =
    (let n = c.args.length in rw (one-mul, c.fineness-shift.ensures) (mod-eq_of_lt (omega (arith, few_codes n lengths.1)))) in
    let half_is : c.half_of.result ≡ per_two_metres c.args.length / 2 = c.half_of.ensures ∙ ap (λ x. x / 2) (per) in
    let units : let a = c in (a.args.code * 2000 + c.half_of.result) / 2 ^ c.fineness-shift.result
    ≡ nearest (a.args.code * 2000) (per_two_metres a.args.length) =
    (let a = c in rw (half_is, c.fineness-shift.ensures) (cut_with_half (a.args.code * 2000) (per_two_metres a.args.length) (some_codes a.args.length))) in
    let a = c in
    rw (units) (omega arith, omega (arith, shown_few a.args.length a.args.code a.requires))

pub returns : goal.returns
unfolding low_end extended_house
returns c =
    let lengths : (2 ≤ c.args.length) × (c.args.length ≤ 4) =
    (let n = c.args.length in let e = reach_length n c.args.code c.requires in
    (leb-true 2 n (both_left (leb 2 n) _ e), leb-true n 4 (both_right (leb 2 n) _ e))) in
    let per : (1 * 2 ^ c.fineness-shift.result) % 18446744073709551616 ≡ per_two_metres c.args.length =
    (let n = c.args.length in rw (one-mul, c.fineness-shift.ensures) (mod-eq_of_lt (omega (arith, few_codes n lengths.1)))) in
    let half_is : c.half_of.result ≡ per_two_metres c.args.length / 2 = c.half_of.ensures ∙ ap (λ x. x / 2) (per) in
    let units : let a = c in (a.args.code * 2000 + c.half_of.result) / 2 ^ c.fineness-shift.result
    ≡ nearest (a.args.code * 2000) (per_two_metres a.args.length) =
    (let a = c in rw (half_is, c.fineness-shift.ensures) (cut_with_half (a.args.code * 2000) (per_two_metres a.args.length) (some_codes a.args.length))) in
    let fits : SFits w64 c.placed.result = search rules in
    rw (to_z-of_z fits, c.placed.ensures, units)
