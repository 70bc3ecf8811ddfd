-- The table's rule, tested once over all tags, and what it says at each: the row of a tag stands after as many rows as there are tags below,
-- and tells the item that document 01's groups have.
-- Assumes nothing.
use Prim.Native.Nat.{ℕ, ◌^◌, ◌<◌, ◌≤◌}
use native.Mathlib.Omega.{arith}
use mathlib.Core.Path.{◌≡◌, refl, sym, ◌∙◌}
use mathlib.Core.Bool.{Bool, true, false, not, cond, ◌&&◌, ◌||◌}
use mathlib.Core.List.{List, [], ◌∷◌}
use lib.Dec.{ltb}
use lib.IntN.{ℤ, ◌+ℤ◌}
use lib.Signed.{mag}
use mir.Syntax.{w64}
use mir.Val.{SFits}
use borrow.Author.Tests.{ltb-true, ne_eqb, le-leb, lt-leb}
use Rattle.base.proofs.Cases.{by_lt, clash, unless}
use Rattle.base.specs.Every.{all, all_below}
use Rattle.base.proofs.Every.{all-below, both_left, both_right}
use Rattle.tagset.specs.Sets.{holds, count_below}
use Rattle.tagset.proofs.Laws.{Words, holds_none}
use Rattle.catalogue.specs.Items.{Group, groups, member, in_groups, item_in, item_of, unit_of}
use Rattle.catalogue.specs.Corners.{is_offset, is_full, is_corner, corner_row}
use Rattle.catalogue.specs.Rows.{rows_from, rows, entry_at, all_tags, item_by}
use Rattle.catalogue.specs.declared.Entry.{Entry}
use Rattle.catalogue.specs.declared.Unit.TheVariants as unit
use Rattle.catalogue.proofs.Same.{same_found, same-found}
use Rattle.std.specs.Prelude.{Some, None}

-- no tag from 128 on is in any group
below128 : Group → Bool
below128 g = all (λ t. ltb t 128) g.tags

groups_below : all below128 groups ≡ true
unfolding groups below128
groups_below = refl

not_member : (t : ℕ) (ts : List ℕ) → all (λ u. ltb u 128) ts ≡ true → 128 ≤ t → member t ts ≡ false
unfolding member
not_member t [] e h = refl
not_member t (u ∷ ts) e h =
    let k : u < 128 = ltb-true u 128 (both_left (ltb u 128) _ e) in
    rw (ne_eqb t u (λ q. omega arith)) (not_member t ts (both_right (ltb u 128) _ e) h)

none_in : {A : Type 0} (none : A) (say : Group → A) (gs : List Group) (t : ℕ) → all below128 gs ≡ true → 128 ≤ t → in_groups none say gs t ≡ none
unfolding below128
none_in none say [] t e h = refl
none_in none say (g ∷ gs) t e h =
    rw (not_member t g.tags (both_left (below128 g) _ e) h) (none_in none say gs t (both_right (below128 g) _ e) h)

pub item_beyond : (t : ℕ) → 128 ≤ t → item_of t ≡ None
unfolding item_of item_in
item_beyond t h = none_in None _ groups t groups_below h

pub unit_beyond : (t : ℕ) → 128 ≤ t → unit_of t ≡ unit.None
unfolding unit_of
unit_beyond t h = none_in unit.None _ groups t groups_below h

-- a whole number of 64 bits
unfoldable pub small : ℤ → Bool
small z = ltb (mag z) (2 ^ 63)

pub small_fits : (z : ℤ) → small z ≡ true → SFits w64 z
unfolding small
small_fits z e = record { sfits = ltb-true _ _ e }

-- each tag below 128: in the set exactly where there is an item, whose row stands at its place in the table
right_row : Entry → ℕ → Bool
right_row e t = small e.3 && (small e.4 && (small (e.3 +ℤ e.4) && same_found (Some (item_by e)) (item_of t)))

placed : ℕ → Bool
placed t =
    cond (holds all_tags t)
    (ltb (count_below all_tags t) 67 && right_row (entry_at (count_below all_tags t)) t)
    (same_found None (item_of t))

all_placed : all_below placed 128 ≡ true
unfolding placed right_row small holds count_below all_tags groups member item_in item_of rows_from rows
all_placed = refl

pub all_words : Words all_tags
unfolding all_tags groups member item_in item_of rows_from rows
all_words = record { low64 = omega arith; high64 = omega arith }

pub record Right (t : ℕ) (e : Entry) : Type 0 where
  pub low_fits : SFits w64 e.3
  pub high_fits : SFits w64 e.4
  pub sum_fits : SFits w64 (e.3 +ℤ e.4)
  pub item : Some (item_by e) ≡ item_of t

right-row : (t : ℕ) (e : Entry) → right_row e t ≡ true → Right t e
unfolding right_row
right-row t e p =
    let q = both_right (small e.3) _ p in
    let r = both_right (small e.4) _ q in
    record {
      low_fits = small_fits _ (both_left (small e.3) _ p);
      high_fits = small_fits _ (both_left (small e.4) _ q);
      sum_fits = small_fits _ (both_left (small (e.3 +ℤ e.4)) _ r);
      item = same-found _ (item_of t) (both_right (small (e.3 +ℤ e.4)) _ r);
    }

pub record Held (t at : ℕ) : Type 0 where
  pub inside : at < 67
  pub right : Right t (entry_at at)

pub item_held : (t : ℕ) → holds all_tags t ≡ true → Held t (count_below all_tags t)
unfolding placed
item_held t e =
    by_lt t 128
    (λ h.
    let at = count_below all_tags t in
    let p = rw e at (all-below placed 128 all_placed t h) in
    record {
      inside = ltb-true at 67 (both_left (ltb at 67) _ p);
      right = right-row t (entry_at at) (both_right (ltb at 67) _ p);
    })
    (λ h. clash (sym e ∙ holds_none all_tags all_words t h))

pub item_none : (t : ℕ) → holds all_tags t ≡ false → item_of t ≡ None
unfolding placed
item_none t e =
    by_lt t 128
    (λ h. sym (same-found None (item_of t) (rw e at (all-below placed 128 all_placed t h))))
    (λ h. item_beyond t h)

-- W-205: a corner's row by the pattern tells the item that the groups have
patterned : ℕ → Bool
patterned t = not (is_corner t) || right_row (corner_row t) t

all_patterned : all_below patterned 128 ≡ true
unfolding patterned right_row small is_offset is_full is_corner corner_row groups member item_in item_of
all_patterned = refl

corner_beyond : (t : ℕ) → 128 ≤ t → is_corner t ≡ false
unfolding is_corner is_offset is_full
corner_beyond t h =
    rw (le-leb 26 t (omega arith), lt-leb t 33 (omega arith), le-leb 82 t (omega arith), lt-leb t 89 (omega arith))

pub corner_right : (t : ℕ) → is_corner t ≡ true → Right t (corner_row t)
unfolding patterned
corner_right t c =
    by_lt t 128
    (λ h. right-row t (corner_row t) (unless (is_corner t) _ (all-below patterned 128 all_patterned t h) c))
    (λ h. clash (sym c ∙ corner_beyond t h))
