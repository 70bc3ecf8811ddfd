-- `scale::Scaled::house_of` meets its contract.
use Prim.Native.Nat.{ℕ, ◌-◌, ◌*◌, ◌/◌}
use borrow.Author.Rules.{rules}
use native.Mathlib.Omega.{arith}
use mathlib.Core.Bool.{Bool, cond, ◌&&◌}
use mathlib.Core.Path.{◌≡◌, ◌∙◌}
use lib.Dec.{leb}
use mir.Syntax.{w64}
use mir.Val.{SFits}
use mir.Facts.{to_z-of_z}
use Rattle.catalogue.specs.declared.Item.{Item}
use Rattle.scale.specs.Nearest.{nearest}
use Rattle.scale.specs.Scales.{code_below, code_far}
use Rattle.scale.specs.code.Rule.{Rule, Scales}
use Rattle.scale.specs.declared.Scale.{Scale}
use Rattle.scale.specs.Conversions.{units_away, house_of}
use Rattle.scale.proofs.Items.{number_fits, far_fits, origin_small, origin_fits, below_same, units_same, units_round, units_few}
use Rattle.scale.proofs.Scaled.house_of.Goals as goal

-- the steps of the code are those of the definition
module _ (i : Item) (r : Rule i) {s : Scale} (k : Scales i s) (code : ℕ) where
  below_is : {below : Bool} → below ≡ (s.signed && leb (s.codes / 2) code) → below ≡ code_below i code
  below_is e = e ∙ below_same i r k code

  far_is : {below : Bool} {far : ℕ} → below ≡ (s.signed && leb (s.codes / 2) code) → far ≡ cond below (s.codes - code) code → far ≡ code_far i code
  far_is e f = rw (f, below_is e, k.all_codes)

  units_are : {below : Bool} {far units : ℕ} → below ≡ (s.signed && leb (s.codes / 2) code) → far ≡ cond below (s.codes - code) code
      → units ≡ nearest (far * s.reach) s.steps → units ≡ units_away i code
  units_are e f g = rw (g, far_is e f) (units_same i r k (code_far i code))

pub turned-far-requires : goal.turned-far-requires
turned-far-requires c =
    omega (arith, number_fits c.args.self.item c.args.self.rule c.args.code c.requires, c.scale-s.ensures.all_codes)

pub rounded-units-requires : goal.rounded-units-requires
rounded-units-requires c =
    let i = c.args.self.item in
    let r = c.args.self.rule in
    let k = c.scale-s.ensures in
    let both = units_round i r k (code_far i c.args.code) (far_fits i r c.args.code c.requires) in
    rw (far_is i r k c.args.code c.is_below-below.ensures c.turned-far.ensures) (record { some_parts = both.0; product_fits = both.1 })

pub placed-requires : goal.placed-requires
placed-requires c =
    let i = c.args.self.item in
    let r = c.args.self.rule in
    let k = c.scale-s.ensures in
    rw (to_z-of_z (origin_fits i r k), k.from, units_are i r k c.args.code c.is_below-below.ensures c.turned-far.ensures c.rounded-units.ensures)
    (origin_small i r, units_few i r (code_far i c.args.code) (far_fits i r c.args.code c.requires))

pub returns : goal.returns
unfolding house_of
returns c =
    let i = c.args.self.item in
    let r = c.args.self.rule in
    let k = c.scale-s.ensures in
    let below = c.is_below-below.ensures in
    let fits : SFits w64 c.placed.result = search rules in
    rw (
      to_z-of_z fits,
      c.placed.ensures,
      to_z-of_z (origin_fits i r k),
      k.from,
      below_is i r k c.args.code below,
      units_are i r k c.args.code below c.turned-far.ensures c.rounded-units.ensures,
    )
