-- Heights and corners, by what the rows say.
-- Assumes nothing.
use Prim.Native.Nat.{ℕ, ◌<◌, ◌≤◌}
use native.Mathlib.Omega.{arith}
use mathlib.Core.Path.{◌≡◌, refl, ◌∙◌}
use mathlib.Core.List.{List}
use borrow.Author.Tests.{lt-ltb, le-ltb}
use Rattle.rows.specs.declared.RowWords.{RowWords}
use Rattle.ground.specs.Values.{value_for, Small}
use Rattle.ground.specs.Ground.{height_by, height_in, before, sensor_in}
use Rattle.ground.specs.Ground.{CornerSeen, no_corner, off_the_earth, on, full_corner, offset_corner, otherwise, plain_corner}
use Rattle.ground.specs.Said.{corner_said}
use Rattle.ground.specs.declared.Value.{Value}
use Rattle.ground.specs.declared.Value.TheVariants.{Absent}
use Rattle.ground.specs.declared.Corner.{Corner}
use Rattle.ground.specs.declared.Corner.TheVariants as corner
use Rattle.ground.proofs.Values.{value_small}

pub small_value : (t : ℕ) (rs : List RowWords) (x : Value) → x ≡ value_for t rs → Small x
small_value t rs x e = rw e (value_small t rs)

-- the two values that a height goes by
pub height_told : (t u : ℕ) (rs : List RowWords) (x y a b : Value) → x ≡ value_for t rs → y ≡ value_for u rs → x ≡ a → y ≡ b
    → height_by a b ≡ height_in t u rs
unfolding height_in
height_told t u rs x y a b e f g h = rw (← e, ← f, g, h)

-- the extended height goes before the others
pub sensor_told : (rs : List RowWords) (x a : Value) → x ≡ value_for 104 rs → x ≡ a
    → height_by (before a (value_for 75 rs)) (value_for 15 rs) ≡ sensor_in rs
unfolding sensor_in
sensor_told rs x a e f = rw (← e, f)

pub sensor_other : (rs : List RowWords) (x : Value) → x ≡ value_for 104 rs → x ≡ Absent → height_in 75 15 rs ≡ sensor_in rs
unfolding sensor_in height_in
sensor_other rs x e f = rw (← e, f)

-- a corner that is not missing decides
decides : (x : Corner) (f w : CornerSeen) → corner_said x ≡ f → (x ≡ corner.Missing → ⊥) → corner_said x ≡ otherwise f w
decides (corner.At p) f w e n = let g : f ≡ on p.latitude p.longitude = cc in rw g
decides corner.OffTheEarth f w e n = let g : f ≡ off_the_earth = cc in rw g
decides corner.Missing f w e n = absurd (n refl)

module _ (k : ℕ) (rs : List RowWords) where
  -- "Any other k is missing."
  pub no_corner_0 : k ≡ 0 → no_corner ≡ plain_corner k rs
  unfolding plain_corner
  no_corner_0 e = rw e

  pub no_corner_5 : 5 ≤ k → no_corner ≡ plain_corner k rs
  unfolding plain_corner
  no_corner_5 h = rw (lt-ltb 0 k (omega arith), le-ltb k 5 h)

  module _ (some : k ≡ 0 → ⊥) (few : k < 5) (x : Corner) (e : corner_said x ≡ full_corner k rs) where
    pub by-offset : x ≡ corner.Missing → (y : Corner) → corner_said y ≡ offset_corner k rs → corner_said y ≡ plain_corner k rs
    unfolding plain_corner
    by-offset m y f =
        let g : full_corner k rs ≡ no_corner = cc in
        rw (lt-ltb 0 k (omega arith), lt-ltb k 5 few, g) f

    pub by_full : (x ≡ corner.Missing → ⊥) → corner_said x ≡ plain_corner k rs
    unfolding plain_corner
    by_full n = decides x (full_corner k rs) (offset_corner k rs) e n ∙ rw (lt-ltb 0 k (omega arith), lt-ltb k 5 few)
