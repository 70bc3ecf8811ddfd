-- The unit by the sets is that of document 01's groups: tested once over all tags below 128, and none beyond.
-- Assumes nothing.
use Prim.Native.Nat.{ℕ, zero, suc, ◌≤◌}
use native.Mathlib.Omega.{arith}
use mathlib.Core.Path.{◌≡◌, refl, ap, sym, ◌∙◌}
use mathlib.Core.Bool.{Bool, true}
use lib.Dec.{eqb}
use borrow.Author.Tests.{eqb-true, ne_eqb}
use Rattle.base.proofs.Cases.{by_lt}
use Rattle.base.specs.Every.{all_below}
use Rattle.base.proofs.Every.{all-below}
use Rattle.tagset.specs.Sets.{holds}
use Rattle.tagset.proofs.Laws.{holds_none}
use Rattle.catalogue.specs.Items.{groups, member, unit_of}
use Rattle.catalogue.proofs.Laws.{unit_beyond}
use Rattle.catalogue.specs.declared.Unit.{Unit}
use Rattle.catalogue.specs.declared.Unit.TheVariants.{None, Degree, Metre, MetrePerSecond, Millibar, Percent, Celsius, Microsecond}
use Rattle.units.specs.Units.{unit_number}
use Rattle.units.specs.code.BySets.{degree_tags, metre_tags, speed_tags, lone_unit, unit_by_sets}

-- no two units have one number
unit_by : ℕ → Unit
unit_by zero = None
unit_by (suc zero) = Degree
unit_by (suc (suc zero)) = Metre
unit_by (suc (suc (suc zero))) = MetrePerSecond
unit_by (suc (suc (suc (suc zero)))) = Millibar
unit_by (suc (suc (suc (suc (suc zero))))) = Percent
unit_by (suc (suc (suc (suc (suc (suc zero)))))) = Celsius
unit_by (suc (suc (suc (suc (suc (suc (suc n))))))) = Microsecond

by_number : (u : Unit) → unit_by (unit_number u) ≡ u
unfolding unit_by
by_number None = refl
by_number Degree = refl
by_number Metre = refl
by_number MetrePerSecond = refl
by_number Millibar = refl
by_number Percent = refl
by_number Celsius = refl
by_number Microsecond = refl

pub one_number : (u v : Unit) → unit_number u ≡ unit_number v → u ≡ v
one_number u v e = sym (by_number u) ∙ (ap unit_by e ∙ by_number v)

same_unit : ℕ → Bool
same_unit t = eqb (unit_number (unit_by_sets t)) (unit_number (unit_of t))

all_same : all_below same_unit 128 ≡ true
unfolding same_unit holds lone_unit groups member unit_of
all_same = refl

lone_beyond : (t : ℕ) → 128 ≤ t → lone_unit t ≡ None
unfolding lone_unit
lone_beyond t h =
    rw (ne_eqb t 2 (λ q. omega arith), ne_eqb t 37 (λ q. omega arith), ne_eqb t 39 (λ q. omega arith), ne_eqb t 55 (λ q. omega arith))

sets_beyond : (t : ℕ) → 128 ≤ t → unit_by_sets t ≡ None
sets_beyond t h =
    rw (
      holds_none degree_tags (record { low64 = omega arith; high64 = omega arith }) t h,
      holds_none metre_tags (record { low64 = omega arith; high64 = omega arith }) t h,
      holds_none speed_tags (record { low64 = omega arith; high64 = omega arith }) t h,
    )
    (lone_beyond t h)

pub by_sets : (t : ℕ) → unit_by_sets t ≡ unit_of t
unfolding same_unit
by_sets t =
    by_lt t 128
    (λ h. one_number (unit_by_sets t) (unit_of t) (eqb-true _ _ (all-below same_unit 128 all_same t h)))
    (λ h. sets_beyond t h ∙ sym (unit_beyond t h))
