-- `scale::Scaled::scale` meets its contract.
use borrow.Author.Rules.{rules}
use Prim.Native.Nat.{◌-◌, ◌/◌}
use native.Mathlib.Omega.{arith}
use mathlib.Core.Path.{◌≡◌, refl, ap, ◌∙◌}
use mathlib.Core.Bool.{true}
use mir.Syntax.{w64}
use mir.Val.{SFits}
use mir.Facts.{to_z-of_z}
use mathlib.Core.Logic.{◌⊎◌, ⊎_elim}
use Rattle.catalogue.specs.Rows.{is_signed}
use Rattle.catalogue.specs.declared.Sign.{Sign}
use Rattle.catalogue.specs.declared.Sign.TheVariants.{Signed, Marked}
use Rattle.scale.proofs.Items.{codes_are, steps_unsigned, steps_signed, origin_signed, counted_scales, unsigned_scales}
use Rattle.scale.proofs.Scaled.scale.Goals as goal

-- either sign of numbers below zero
below_zero : {s : Sign} → (s ≡ Signed) ⊎ (s ≡ Marked) → is_signed s ≡ true
below_zero h = ⊎_elim (λ e. ap is_signed e) (λ e. ap is_signed e) h

pub apart-requires : goal.apart-requires
apart-requires c =
    let a = c in
    let item = a.args.self.item in
    let low : SFits w64 item.low = search rules in
    let high : SFits w64 item.high = search rules in
    rw (to_z-of_z low, to_z-of_z high) (c.args.self.rule.low_small, c.args.self.rule.high_small)

pub overflow_sub-result : goal.overflow_sub-result
overflow_sub-result c =
    let a = c in
    let item = a.args.self.item in
    let e = c.codes_of-codes.ensures ∙ codes_are item c.args.self.rule in
    omega (arith, e, c.args.self.rule.odd, steps_unsigned item c.args.self.rule (ap is_signed c.in-Unsigned.is))

pub two_sided-requires : goal.two_sided-requires
two_sided-requires c =
    let item = c.args.self.item in
    let r = c.args.self.rule in
    let e = below_zero c.in-Signed.is in
    let high : SFits w64 item.high = search rules in
    rw (c.codes_of-codes.ensures ∙ codes_are item r, to_z-of_z high) (record {
      two_codes = omega (arith, r.halves, r.odd, steps_signed item r e);
      high_from_zero = rw (origin_signed item r e) at r.high_above;
    })

pub returns-in-Unsigned : goal.returns-in-Unsigned
returns-in-Unsigned c =
    let a = c in
    let item = a.args.self.item in
    let low : SFits w64 item.low = search rules in
    let high : SFits w64 item.high = search rules in
    let e = c.codes_of-codes.ensures ∙ codes_are item c.args.self.rule in
    unsigned_scales item c.args.self.rule _ (ap is_signed c.in-Unsigned.is) (to_z-of_z low) refl e
    (ap (λ x. x / 5) (rw (to_z-of_z low, to_z-of_z high) at c.apart.ensures)) (ap (λ x. (x - 1) / 5) e)

pub returns-in-Signed : goal.returns-in-Signed
returns-in-Signed c =
    let item = c.args.self.item in
    let r = c.args.self.rule in
    let high : SFits w64 item.high = search rules in
    counted_scales item r _ (below_zero c.in-Signed.is) (rw (c.codes_of-codes.ensures ∙ codes_are item r, to_z-of_z high) at c.two_sided.ensures)
