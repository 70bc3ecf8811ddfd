-- `scale::Scaled::code_of` meets its contract.
use Prim.Native.Nat.{ℕ, ◌*◌, ◌<◌, ◌^◌}
use borrow.Author.Rules.{rules}
use native.Mathlib.Omega.{arith}
use mathlib.Core.Bool.{false}
use mathlib.Core.Path.{◌≡◌}
use lib.IntN.{ℤ, nat_abs, ◌-ℤ◌}
use lib.Signed.{mag, lt_z}
use mir.Syntax.{w64}
use mir.Val.{SFits, to_z, of_z}
use mir.Facts.{to_z-of_z}
use Rattle.catalogue.specs.declared.Item.{Item}
use Rattle.scale.specs.Nearest.{nearest}
use Rattle.scale.specs.Scales.{is_outside, value_below, value_far}
use Rattle.scale.specs.code.Rule.{Rule, Scales}
use Rattle.scale.specs.declared.Scale.{Scale}
use Rattle.scale.specs.Conversions.{codes_away, code_of}
use Rattle.scale.proofs.Whole.{inside_small}
use Rattle.scale.proofs.Items.{neither_left, neither_right, origin_small, origin_fits, codes_same, codes_round}
use Rattle.scale.proofs.Numbers.{code_some, code_none, few_codes}
use Rattle.scale.proofs.Scaled.code_of.Goals as goal

-- the steps of the code are those of the definition
module _ (i : Item) (r : Rule i) {s : Scale} (k : Scales i s) (v : ℤ) (fits : SFits w64 v) where
  far_is : {far : ℕ} → far ≡ nat_abs (to_z w64 (of_z w64 v) -ℤ to_z w64 (of_z w64 s.origin)) → far ≡ value_far i v
  far_is e = rw (to_z-of_z fits, to_z-of_z (origin_fits i r k), k.from) at e

  codes_are : {far n : ℕ} → far ≡ nat_abs (to_z w64 (of_z w64 v) -ℤ to_z w64 (of_z w64 s.origin)) → n ≡ nearest (far * s.steps) s.reach
      → n ≡ codes_away i v
  codes_are e f = rw (f, far_is e) (codes_same i r k (value_far i v))

-- a value in the range is small
value_small : (i : Item) (r : Rule i) (v : ℤ) → is_outside i v ≡ false → mag v < 2 ^ 62
value_small i r v inside =
    inside_small i.low i.high v r.low_small r.high_small (neither_left (lt_z v i.low) _ inside) (neither_right (lt_z v i.low) _ inside)

pub apart-requires : goal.apart-requires
apart-requires c =
    let i = c.args.self.item in
    let r = c.args.self.rule in
    let k = c.scale-s.ensures in
    let fits : SFits w64 c.args.value = search rules in
    rw (to_z-of_z fits, to_z-of_z (origin_fits i r k), k.from) (origin_small i r, value_small i r c.args.value c.requires)

pub rounded-far-requires : goal.rounded-far-requires
rounded-far-requires c =
    let i = c.args.self.item in
    let r = c.args.self.rule in
    let k = c.scale-s.ensures in
    let both = codes_round i r k c.args.value c.requires in
    rw (far_is i r k c.args.value (search rules) c.apart.ensures) (record { some_parts = both.0; product_fits = both.1 })

pub turned-requires : goal.turned-requires
turned-requires c =
    let i = c.args.self.item in
    let r = c.args.self.rule in
    let k = c.scale-s.ensures in
    rw (codes_are i r k c.args.value (search rules) c.apart.ensures c.rounded-far.ensures, k.all_codes) (few_codes i r c.args.value c.requires)

pub returns-then-far-gt0 : goal.returns-then-far-gt0
unfolding code_of
returns-then-far-gt0 c =
    let i = c.args.self.item in
    let r = c.args.self.rule in
    let k = c.scale-s.ensures in
    let fits : SFits w64 c.args.value = search rules in
    let e = codes_are i r k c.args.value fits c.apart.ensures c.rounded-far.ensures in
    rw (c.turned.ensures, to_z-of_z fits, to_z-of_z (origin_fits i r k), k.from, k.all_codes, e)
    (code_some i (value_below i c.args.value) _ (omega arith))

pub returns : goal.returns
unfolding code_of
returns c =
    let i = c.args.self.item in
    let e = codes_are i c.args.self.rule c.scale-s.ensures c.args.value (search rules) c.apart.ensures c.rounded-far.ensures in
    rw e (code_none i (value_below i c.args.value) _ (omega arith))
