-- The tags that both sets hold, when one of them has a tag more.
-- Assumes nothing.
use Prim.Native.Nat.{ℕ}
use mathlib.Core.Path.{◌≡◌, ap, sym, ◌∙◌}
use mathlib.Core.Bool.{true, false, cond, ◌&&◌, and-false}
use lib.Bits.{and_zero_l}
use Rattle.base.proofs.Cases.{by_bool, by_lt, by_eq, clash}
use Rattle.tagset.specs.Sets.{no_tags, holds, with_tag, meet}
use Rattle.tagset.specs.declared.TagSet.{TagSet}
use Rattle.tagset.proofs.Laws.{Words, holds_none, with_words, with_it, with_other, meet_words, meet_holds, same_tags}

pub meet_none : (of : TagSet) → meet no_tags of ≡ no_tags
unfolding meet
meet_none of = λ k. record { low = and_zero_l of.low k; high = and_zero_l of.high k }

-- the tag more is in both just where the other holds it
module _ (s of : TagSet) (ws : Words s) (wo : Words of) (t : ℕ) where
  more : Words (with_tag s t)
  more = with_words s ws t

  both : Words (meet s of)
  both = meet_words s of ws wo

  -- any other tag is in both as before
  other_met : (u : ℕ) → (u ≡ t → ⊥) → holds (meet (with_tag s t) of) u ≡ holds (meet s of) u
  other_met u n =
      meet_holds (with_tag s t) of more wo u
      ∙ (ap (λ b. b && holds of u) (with_other s ws t u n) ∙ sym (meet_holds s of ws wo u))

  held : holds of t ≡ true → meet (with_tag s t) of ≡ with_tag (meet s of) t
  held k =
      by_lt t 128
      (λ h. same_tags _ _ (meet_words (with_tag s t) of more wo) (with_words (meet s of) both t) (λ u. by_eq u t
      (λ e. rw (e, meet_holds (with_tag s t) of more wo t, with_it s ws t h, k, with_it (meet s of) both t h))
      (λ n. other_met u n ∙ sym (with_other (meet s of) both t u n))))
      (λ h. clash (sym k ∙ holds_none of wo t h))

  not_held : holds of t ≡ false → meet (with_tag s t) of ≡ meet s of
  not_held k =
      same_tags _ _ (meet_words (with_tag s t) of more wo) both (λ u. by_eq u t
      (λ e. rw (e, meet_holds (with_tag s t) of more wo t, meet_holds s of ws wo t, k) (and-false (holds (with_tag s t) t) ∙ sym (and-false (holds s t))))
      (other_met u))

  pub meet_with : meet (with_tag s t) of ≡ cond (holds of t) (with_tag (meet s of) t) (meet s of)
  meet_with = by_bool (holds of t) (λ k. rw k (held k)) (λ k. rw k (not_held k))
