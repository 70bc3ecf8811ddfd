-- The rule of the scaled items, tested once over all tags, and what it says of each.
-- Assumes nothing.
use Prim.Native.Nat.{ℕ, ◌+◌, ◌*◌, ◌/◌, ◌%◌, ◌^◌, ◌<◌}
use mathlib.Core.Path.{◌≡◌, refl, sym, ◌∙◌}
use mathlib.Core.Bool.{Bool, true, not, ◌||◌}
use mathlib.Core.List.{List, [], ◌∷◌}
use native.Mathlib.Omega.{arith}
use lib.ListN.{get_or}
use lib.Dec.{ltb, leb, eqb}
use lib.Signed.{mag, lt_z}
use borrow.Author.Tests.{ltb-true, leb-true, eqb-true, not-true}
use Rattle.base.proofs.Cases.{by_lt, never, unless}
use Rattle.base.specs.Every.{all, all_below}
use Rattle.base.proofs.Every.{all_at, all-below}
use Rattle.catalogue.specs.Items.{groups, member, item_in, item_of}
use Rattle.catalogue.specs.declared.Item.{Item}
use Rattle.catalogue.proofs.Laws.{item_beyond}
use Rattle.scale.specs.Nearest.{nearest}
use Rattle.scale.specs.Scales.{scaled, codes, half, origin, reach, steps}
use Rattle.scale.specs.code.Rule.{shared, depth, lowest, under, Rule}
use Rattle.std.specs.Prelude.{Option, Some, None}

-- a test that the scaled items pass, of all tags, holds of each
abbrev pub of_scaled : (Item → Bool) → Option Item → Bool
of_scaled test (Some i) = not (scaled i) || test i
of_scaled test None = true

pub of-scaled : (test : Item → Bool) → all_below (λ t. of_scaled test (item_of t)) 128 ≡ true
    → (t : ℕ) (i : Item) → item_of t ≡ Some i → scaled i ≡ true → test i ≡ true
of-scaled test pass t i e s =
    by_lt t 128
    (λ h. unless (scaled i) _ (rw e at (all-below (λ t. of_scaled test (item_of t)) 128 pass t h)) s)
    (λ h. let z : Some i ≡ None = sym e ∙ item_beyond t h in never (cc))

tests : Item → List Bool
tests i =
    ltb i.width 5
    ∷ eqb (half i + half i) (codes i)
    ∷ eqb (steps i % 2) 1
    ∷ ltb 0 (reach i)
    ∷ ltb (mag i.low) (2 ^ 62)
    ∷ ltb (mag i.high) (2 ^ 62)
    ∷ not (lt_z (origin i) i.low)
    ∷ not (lt_z i.high (origin i))
    ∷ eqb (shared i * (reach i / shared i)) (reach i)
    ∷ eqb (shared i * (steps i / shared i)) (steps i)
    ∷ ltb (nearest (codes i * reach i) (steps i)) (2 ^ 62)
    ∷ ltb (codes i * (reach i / shared i)) (2 ^ 63)
    ∷ ltb (depth i * (steps i / shared i)) (2 ^ 63)
    ∷ ltb (reach i * (steps i / shared i)) (2 ^ 63)
    ∷ leb (lowest i) (under i)
    ∷ leb (nearest (under i * reach i) (steps i)) (depth i)
    ∷ []

passes : Bool → Bool
passes b = b

ruled : Item → Bool
ruled i = all passes (tests i)

all_ruled : all_below (λ t. of_scaled ruled (item_of t)) 128 ≡ true
unfolding groups member item_in item_of ruled tests passes codes half origin reach steps nearest
all_ruled = refl

keeps : (i : Item) → all passes (tests i) ≡ true → Rule i
unfolding tests passes
keeps i e =
    let held : (k : ℕ) → k < 16 → get_or (tests i) k true ≡ true = all_at passes (tests i) true e in
    record {
      narrow = ltb-true _ _ (held 0 (omega arith));
      halves = eqb-true _ _ (held 1 (omega arith));
      odd = eqb-true _ _ (held 2 (omega arith));
      some = ltb-true _ _ (held 3 (omega arith));
      low_small = ltb-true _ _ (held 4 (omega arith));
      high_small = ltb-true _ _ (held 5 (omega arith));
      low_below = not-true _ (held 6 (omega arith));
      high_above = not-true _ (held 7 (omega arith));
      reach_shared = eqb-true _ _ (held 8 (omega arith));
      steps_shared = eqb-true _ _ (held 9 (omega arith));
      units_small = ltb-true _ _ (held 10 (omega arith));
      house_small = ltb-true _ _ (held 11 (omega arith));
      deep_small = ltb-true _ _ (held 12 (omega arith));
      high_fits = ltb-true _ _ (held 13 (omega arith));
      lowest_under = leb-true _ _ (held 14 (omega arith));
      under_inside = leb-true _ _ (held 15 (omega arith));
    }

pub rule : (t : ℕ) (i : Item) → item_of t ≡ Some i → scaled i ≡ true → Rule i
unfolding ruled
rule t i e s = keeps i (of-scaled ruled all_ruled t i e s)
