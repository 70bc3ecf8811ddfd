-- The two classes of items with a scale: those with a width, which go by document 01's formula, and the extended heights of W-202. No tag is of both.
-- Assumes nothing.
use Prim.Native.Nat.{ℕ}
use mathlib.Core.Path.{◌≡◌, refl, sym, ap, ◌∙◌}
use mathlib.Core.Bool.{Bool, true, false, not, ◌&&◌, ◌||◌}
use lib.Dec.{ltb, leb}
use lib.Signed.{lt_z}
use Rattle.base.proofs.Cases.{by_bool, by_lt, clash, never, unless}
use Rattle.base.specs.Every.{all_below}
use Rattle.base.proofs.Every.{all-below, both_left}
use Rattle.catalogue.specs.Items.{groups, member, item_in, item_of}
use Rattle.catalogue.specs.Shapes.{length_allowed}
use Rattle.catalogue.specs.Extended.{is_extended}
use Rattle.catalogue.specs.declared.Item.{Item}
use Rattle.catalogue.proofs.Laws.{item_beyond}
use Rattle.catalogue.proofs.Columns.{by_height, extended_shape}
use Rattle.scale.specs.Scales.{scaled}
use Rattle.scale.specs.Extended.{low_end, high_end}
use Rattle.std.specs.Prelude.{Option, Some, None}

-- the catalogue's item of an extended height has the same ends, and no width
pub record HeightItem (i : Item) : Type 0 where
  pub no_width : i.width ≡ 0
  pub low-end : i.low ≡ low_end
  pub high-end : i.high ≡ high_end

height_item : Option Item → Type 0
height_item (Some i) = HeightItem i
height_item None = ⊥

pub height-item : (t : ℕ) (i : Item) → is_extended t ≡ true → item_of t ≡ Some i → HeightItem i
unfolding height_item groups member item_in item_of low_end high_end
height-item t i x e =
    let h : height_item (item_of t) =
    by_height (λ t. height_item (item_of t)) t x
    (record { no_width = refl; low-end = refl; high-end = refl })
    (record { no_width = refl; low-end = refl; high-end = refl })
    (record { no_width = refl; low-end = refl; high-end = refl }) in
    rw e at h

-- "Accept lengths 2, 3 and 4."
pub height_lengths : (t n : ℕ) → is_extended t ≡ true → length_allowed t n ≡ (leb 2 n && leb n 4)
unfolding length_allowed
height_lengths t n x = rw (extended_shape t x)

-- an item with a width and a scale is no extended height
pub scaled_other : (t : ℕ) (i : Item) → item_of t ≡ Some i → scaled i ≡ true → is_extended t ≡ false
scaled_other t i e s =
    by_bool (is_extended t)
    (λ x. clash (sym (both_left (ltb 0 i.width) _ s) ∙ ap (ltb 0) (height-item t i x e).no_width))
    (λ x. x)

-- and of all others with a range each has a width
wide_by : Option Item → Bool
wide_by (Some i) = not (lt_z i.low i.high) || ltb 0 i.width
wide_by None = true

all_wide : all_below (λ t. is_extended t || wide_by (item_of t)) 128 ≡ true
unfolding groups member item_in item_of is_extended wide_by
all_wide = refl

pub scaled_by_range : (t : ℕ) (i : Item) → item_of t ≡ Some i → is_extended t ≡ false → scaled i ≡ lt_z i.low i.high
unfolding wide_by
scaled_by_range t i e x =
    by_lt t 128
    (λ h.
    let w = rw (x, e) at (all-below (λ t. is_extended t || wide_by (item_of t)) 128 all_wide t h) in
    by_bool (lt_z i.low i.high)
    (λ r. rw (r, unless (lt_z i.low i.high) _ w r))
    (λ r. rw r (none (ltb 0 i.width))))
    (λ h. let z : Some i ≡ None = sym e ∙ item_beyond t h in never (cc))
  where
    none : (b : Bool) → b && false ≡ false
    none true = refl
    none false = refl
