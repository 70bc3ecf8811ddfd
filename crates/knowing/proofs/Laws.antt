-- What a good set is, tag by tag, and by inclusion.
-- Assumes nothing.
use Prim.Native.Nat.{ℕ, zero, suc, ◌<◌}
use mathlib.Core.Path.{◌≡◌, refl, ap, sym, ◌∙◌}
use native.Mathlib.Omega.{arith}
use lib.Dec.{eqb}
use lib.Signed.{lt_z}
use borrow.Author.Tests.{ne_eqb}
use mathlib.Core.Bool.{Bool, true, false, not, ◌||◌}
use Rattle.base.proofs.Cases.{by_bool, by_lt, by_eq, clash, never, unless, unless_true}
use Rattle.base.specs.Every.{all_below}
use Rattle.base.proofs.Every.{all-below, below_all, both_left, both_right, both_true}
use Rattle.tagset.specs.Sets.{holds, within}
use Rattle.tagset.specs.declared.TagSet.{TagSet}
use Rattle.tagset.proofs.Laws.{Words, Included, holds_none, within_included, included_within}
use Rattle.catalogue.specs.Items.{groups, member, item_in, item_of}
use Rattle.catalogue.specs.Rows.{all_tags}
use Rattle.catalogue.specs.Shapes.{is_marked, shape_by, shape_of}
use Rattle.catalogue.specs.declared.Shape.{Shape}
use Rattle.catalogue.specs.declared.Shape.TheVariants.{Text, Number}
use Rattle.catalogue.proofs.Laws.{item_held, item_none}
use Rattle.knowing.specs.Good.{is_known, in_catalogue, good}
use Rattle.std.specs.Prelude.{Option, Some, None}
use Rattle.catalogue.specs.declared.Item.{Item}

-- the whole catalogue's set holds just the catalogue's tags
pub all_tags_catalogue : (t : ℕ) → holds all_tags t ≡ in_catalogue t
unfolding in_catalogue
all_tags_catalogue t =
    by_bool (holds all_tags t)
    (λ e. e ∙ ap is_known (item_held t e).right.item)
    (λ e. e ∙ sym (ap is_known (item_none t e)))

pub record Good (s : TagSet) : Type 0 where
  pub checksum : holds s 1 ≡ true
  pub time : holds s 2 ≡ true
  pub version : holds s 65 ≡ true
  pub only : (t : ℕ) → holds s t ≡ true → in_catalogue t ≡ true

module _ (s : TagSet) where
  only_test : ℕ → Bool
  only_test t = not (holds s t) || in_catalogue t

  pub good_means : Words s → good s ≡ true → Good s
  unfolding good only_test
  good_means w e =
      let e₁ = both_right (holds s 1) _ e in
      let e₂ = both_right (holds s 2) _ e₁ in
      let e₃ = both_right (holds s 65) _ e₂ in
      record {
        checksum = both_left (holds s 1) _ e;
        time = both_left (holds s 2) _ e₁;
        version = both_left (holds s 65) _ e₂;
        only = λ t h. by_lt t 128
            (λ k. unless (holds s t) (in_catalogue t) (all-below only_test 128 e₃ t k) h)
            (λ k. clash (sym h ∙ holds_none s w t k));
      }

  pub means_good : Good s → good s ≡ true
  unfolding good only_test
  means_good g =
      both_true _ _ g.checksum
      (both_true _ _ g.time
      (both_true _ _ g.version
      (below_all only_test 128 (λ t k. unless_true (holds s t) (in_catalogue t) (g.only t)))))

-- a known tag is one of the table, so it is below 128, and not 0
pub known_below : (K : TagSet) → Words K → (t : ℕ) → holds K t ≡ true → t < 128
known_below K w t e = by_lt t 128 (λ h. h) (λ h. clash (sym e ∙ holds_none K w t h))

module _ (K : TagSet) (g : Good K) where
  pub known_some : (t : ℕ) → holds K t ≡ true → 0 < t
  unfolding in_catalogue item_of item_in member groups
  known_some zero e = clash (sym (g.only 0 e))
  known_some (suc t) e = omega arith

  pub known_there : (t : ℕ) → holds K t ≡ true → shape_of t ≡ Shape.Absent → ⊥
  unfolding in_catalogue shape_of
  known_there t e = listed (item_of t) (g.only t e)
    where
      listed : (f : Option Item) → is_known f ≡ true → shape_by f ≡ Shape.Absent → ⊥
      listed (Some i) k a =
          by_bool (eqb i.width 0)
          (λ b. by_bool (lt_z i.low i.high)
          (λ l. let z : Number 2 4 false ≡ Shape.Absent = rw (b, l) at a in never (cc))
          (λ l. let z : Text ≡ Shape.Absent = rw (b, l) at a in never (cc)))
          (λ b. let z : Number i.width i.width (is_marked i.sign) ≡ Shape.Absent = rw b at a in never (cc))
      listed None k a = clash (sym k)

-- 1, 2 and 65, as two words
abbrev pub least : TagSet
least = record { low = 6; high = 2 }

is_least : ℕ → Bool
is_least t = eqb t 1 || (eqb t 2 || eqb t 65)

least_test : all_below (λ t. not (holds least t) || is_least t) 128 ≡ true
unfolding holds is_least
least_test = refl

least_words : Words least
least_words = record { low64 = omega arith; high64 = omega arith }

either : (P : ℕ → Type 0) (t : ℕ) → is_least t ≡ true → P 1 → P 2 → P 65 → P t
unfolding is_least
either P t e p q r =
    by_eq t 1 (λ h. rw h p)
    (λ h. by_eq t 2 (λ k. rw k q)
    (λ k. by_eq t 65 (λ m. rw m r) (λ m. clash (sym e ∙ rw (ne_eqb t 1 h, ne_eqb t 2 k, ne_eqb t 65 m)))))

module _ (s : TagSet) where
  pub good_least : Good s → within least s ≡ true
  good_least g =
      included_within least s (record {
        each = λ t h.
            by_lt t 128
            (λ k. either (λ u. holds s u ≡ true) t
            (unless (holds least t) (is_least t) (all-below (λ u. not (holds least u) || is_least u) 128 least_test t k) h)
            g.checksum g.time g.version)
            (λ k. clash (sym h ∙ holds_none least least_words t k));
      })

  pub good_all : Good s → within s all_tags ≡ true
  good_all g = included_within s all_tags (record { each = λ t h. all_tags_catalogue t ∙ g.only t h })

  pub within_good : Words s → within least s ≡ true → within s all_tags ≡ true → Good s
  unfolding holds
  within_good w e f =
      let i : Included least s = within_included least s least_words e in
      let j : Included s all_tags = within_included s all_tags w f in
      record { checksum = i.each 1 refl; time = i.each 2 refl; version = i.each 65 refl; only = λ t h. sym (all_tags_catalogue t) ∙ j.each t h }

-- the whole catalogue's set is good
pub all_tags_good : Good all_tags
unfolding in_catalogue groups member item_in item_of
all_tags_good =
    record {
      checksum = all_tags_catalogue 1;
      time = all_tags_catalogue 2;
      version = all_tags_catalogue 65;
      only = λ t h. sym (all_tags_catalogue t) ∙ h;
    }
