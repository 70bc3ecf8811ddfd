-- What the two words mean as a set: `holds` by the words, and `within` as inclusion.
-- Assumes nothing.
use Prim.Native.Nat.{ℕ, zero, suc, ◌+◌, ◌-◌, ◌%◌, ◌^◌, ◌<◌, ◌≤◌}
use native.Mathlib.Omega.{arith}
use mathlib.Core.Path.{◌≡◌, refl, ap, sym, ◌∙◌}
use mathlib.Core.Bool.{true, false, not, ◌&&◌, ◌||◌}
use lib.Dec.{eqb}
use lib.Bits.{bit_and, bit_or, or_lt, and_lt, and_comm, and_zero_l}
use native.Mathlib.Nat.{div-eq_of_lt}
use lib.Pow.{pow-lt, pow_pos}
use borrow.Author.Tests.{eq-eqb, eqb-true, lt-ltb, le-ltb}
use Rattle.base.proofs.Cases.{by_lt, clash, unless, unless_true}
use Rattle.base.proofs.Every.{all-below, below_all, both_left, both_right}
use Rattle.tagset.specs.Sets.{no_tags, holds, within, with_tag, meet, same}
use Rattle.tagset.specs.declared.TagSet.{TagSet}
use Rattle.tagset.proofs.Words.{set-bit, other_bit, bit, bit_small, and_bit, low_bit, high_bit, no_bit, masked_bits, bits_masked}

-- each is a word of 64 bits
pub record Words (s : TagSet) : Type 0 where
  pub low64 : s.low < 2 ^ 64
  pub high64 : s.high < 2 ^ 64

module _ (s : TagSet) (w : Words s) (t : ℕ) where
  pub holds_low : t < 64 → holds s t ≡ eqb (bit s.low t) 1
  unfolding holds
  holds_low h = ap (λ x. eqb x 1) (low_bit s.high s.low w.low64 t h)

  pub holds_high : 64 ≤ t → holds s t ≡ eqb (bit s.high (t - 64)) 1
  unfolding holds
  holds_high h = ap (λ x. eqb (x % 2) 1) (high_bit s.high s.low w.low64 t h)

  pub holds_none : 128 ≤ t → holds s t ≡ false
  unfolding holds
  holds_none h = ap (λ x. eqb (x % 2) 1) (no_bit s.high s.low w.low64 t h w.high64)

-- no tag
pub no_words : Words no_tags
no_words = record { low64 = omega arith; high64 = omega arith }

pub no-tags : (t : ℕ) → holds no_tags t ≡ false
unfolding holds
no-tags t = ap (λ x. eqb (x % 2) 1) (div-eq_of_lt (pow_pos t))

-- inclusion
pub record Included (s of : TagSet) : Type 0 where
  pub each : (t : ℕ) → holds s t ≡ true → holds of t ≡ true

module _ (s of : TagSet) where
  pub within_included : Words s → within s of ≡ true → Included s of
  unfolding within
  within_included w e =
      record {
        each = λ t h. by_lt t 128
            (λ k. unless (holds s t) (holds of t) (all-below (λ u. not (holds s u) || holds of u) 128 e t k) h)
            (λ k. clash (sym h ∙ holds_none s w t k));
      }

  pub included_within : Included s of → within s of ≡ true
  unfolding within
  included_within i = below_all (λ u. not (holds s u) || holds of u) 128 (λ t k. unless_true (holds s t) (holds of t) (i.each t))

-- inclusion by masks
module _ (s of : TagSet) (ws : Words s) (wo : Words of) where
  pub masks_within : bit_and s.low of.low ≡ s.low → bit_and s.high of.high ≡ s.high → within s of ≡ true
  masks_within l h =
      included_within s of (record {
        each = λ t e. by_lt t 64
            (λ k. holds_low of wo t k ∙ eq-eqb _ 1 (masked_bits s.low of.low l t (eqb-true _ 1 (sym (holds_low s ws t k) ∙ e))))
            (λ k. holds_high of wo t k ∙ eq-eqb _ 1 (masked_bits s.high of.high h (t - 64) (eqb-true _ 1 (sym (holds_high s ws t k) ∙ e))));
      })

  pub within_low : within s of ≡ true → bit_and s.low of.low ≡ s.low
  within_low e =
      let i : Included s of = within_included s of ws e in
      bits_masked 64 s.low of.low ws.low64
      (λ k l f. eqb-true _ 1 (sym (holds_low of wo k l) ∙ i.each k (holds_low s ws k l ∙ eq-eqb _ 1 f)))

  pub within_high : within s of ≡ true → bit_and s.high of.high ≡ s.high
  within_high e =
      let i : Included s of = within_included s of ws e in
      bits_masked 64 s.high of.high ws.high64
      (λ k l f. let m : 64 ≤ 64 + k = omega arith in
      let same : 64 + k - 64 ≡ k = omega arith in
      eqb-true _ 1 (sym (holds_high of wo (64 + k) m ∙ ap (λ j. eqb (bit of.high j) 1) same)
      ∙ i.each (64 + k) (holds_high s ws (64 + k) m ∙ (ap (λ j. eqb (bit s.high j) 1) same ∙ eq-eqb _ 1 f))))

-- a tag more
module _ (s : TagSet) (w : Words s) (t : ℕ) where
  with_low : t < 64 → with_tag s t ≡ record { low = bit_or s.low (2 ^ t); high = s.high }
  unfolding with_tag
  with_low h = rw (lt-ltb t 64 h)

  with_high : 64 ≤ t → t < 128 → with_tag s t ≡ record { low = s.low; high = bit_or s.high (2 ^ (t - 64)) }
  unfolding with_tag
  with_high h k = rw (le-ltb t 64 h, lt-ltb t 128 k)

  pub with_none : 128 ≤ t → with_tag s t ≡ s
  unfolding with_tag
  with_none h = rw (le-ltb t 64 (omega arith), le-ltb t 128 h)

  word_low : t < 64 → bit_or s.low (2 ^ t) < 2 ^ 64
  word_low h = or_lt 64 s.low (2 ^ t) w.low64 (pow-lt h)

  word_high : 64 ≤ t → t < 128 → bit_or s.high (2 ^ (t - 64)) < 2 ^ 64
  word_high h k = or_lt 64 s.high (2 ^ (t - 64)) w.high64 (pow-lt {i = t - 64} {j = 64} (omega arith))

  pub with_words : Words (with_tag s t)
  with_words =
      by_lt t 64 (λ h. rw (with_low h) (record { low64 = word_low h; high64 = w.high64 }))
      (λ h. by_lt t 128 (λ k. rw (with_high h k) (record { low64 = w.low64; high64 = word_high h k }))
      (λ k. rw (with_none k) w))

  pub with_it : t < 128 → holds (with_tag s t) t ≡ true
  with_it k =
      by_lt t 64
      (λ h. rw (with_low h) (holds_low _ (record { low64 = word_low h; high64 = w.high64 }) t h ∙ eq-eqb _ 1 (set-bit s.low t)))
      (λ h. rw (with_high h k) (holds_high _ (record { low64 = w.low64; high64 = word_high h k }) t h ∙ eq-eqb _ 1 (set-bit s.high (t - 64))))

  pub with_other : (u : ℕ) → (u ≡ t → ⊥) → holds (with_tag s t) u ≡ holds s u
  with_other u other =
      by_lt t 64
      (λ h. let v : Words (record { low = bit_or s.low (2 ^ t); high = s.high }) = record { low64 = word_low h; high64 = w.high64 } in
      rw (with_low h) (by_lt u 64
      (λ k. holds_low _ v u k ∙ (ap (λ x. eqb x 1) (other_bit s.low t u other) ∙ sym (holds_low s w u k)))
      (λ k. holds_high _ v u k ∙ sym (holds_high s w u k))))
      (λ h. by_lt t 128
      (λ m. let v : Words (record { low = s.low; high = bit_or s.high (2 ^ (t - 64)) }) = record { low64 = w.low64; high64 = word_high h m } in
      rw (with_high h m) (by_lt u 64
      (λ k. holds_low _ v u k ∙ sym (holds_low s w u k))
      (λ k. holds_high _ v u k ∙ (ap (λ x. eqb x 1) (other_bit s.high (t - 64) (u - 64) (λ e. other (omega arith))) ∙ sym (holds_high s w u k)))))
      (λ m. rw (with_none m)))

-- the tags that both hold
and_bits : (x y : ℕ) → x < 2 → y < 2 → eqb (bit_and x y) 1 ≡ eqb x 1 && eqb y 1
and_bits zero y h k = ap (λ z. eqb z 1) (and_zero_l y)
and_bits (suc zero) zero h k = refl
and_bits (suc zero) (suc zero) h k = refl
and_bits (suc zero) (suc (suc y)) h k = absurd (omega arith)
and_bits (suc (suc x)) y h k = absurd (omega arith)

both_hold : (v w k : ℕ) → eqb (bit (bit_and v w) k) 1 ≡ eqb (bit v k) 1 && eqb (bit w k) 1
both_hold v w k = ap (λ x. eqb x 1) (and_bit v w k) ∙ and_bits (bit v k) (bit w k) (bit_small v k) (bit_small w k)

module _ (s of : TagSet) (ws : Words s) (wo : Words of) where
  pub meet_words : Words (meet s of)
  unfolding meet
  meet_words = record { low64 = and_lt 64 s.low of.low ws.low64 wo.low64; high64 = and_lt 64 s.high of.high ws.high64 wo.high64 }

  pub meet_holds : (t : ℕ) → holds (meet s of) t ≡ holds s t && holds of t
  unfolding meet
  meet_holds t =
      by_lt t 64
      (λ h. holds_low _ meet_words t h ∙ (both_hold s.low of.low t ∙ sym (rw (holds_low s ws t h, holds_low of wo t h))))
      (λ h. holds_high _ meet_words t h ∙ (both_hold s.high of.high (t - 64) ∙ sym (rw (holds_high s ws t h, holds_high of wo t h))))

-- sets that hold the same tags are the same words
module _ (s of : TagSet) (ws : Words s) (wo : Words of) where
  pub same_tags : ((t : ℕ) → holds s t ≡ holds of t) → s ≡ of
  same_tags e =
      let there = included_within s of (record { each = λ t h. sym (e t) ∙ h }) in
      let back = included_within of s (record { each = λ t h. e t ∙ h }) in
      let low : s.low ≡ of.low = sym (within_low s of ws wo there) ∙ (and_comm s.low of.low ∙ within_low of s wo ws back) in
      let high : s.high ≡ of.high = sym (within_high s of ws wo there) ∙ (and_comm s.high of.high ∙ within_high of s wo ws back) in
      λ k. record { low = low k; high = high k }

pub same_true : (s of : TagSet) → same s of ≡ true → s ≡ of
unfolding same
same_true s of e =
    let low = eqb-true s.low of.low (both_left (eqb s.low of.low) _ e) in
    let high = eqb-true s.high of.high (both_right (eqb s.low of.low) _ e) in
    λ k. record { low = low k; high = high k }

pub true_same : (s : TagSet) → same s s ≡ true
unfolding same
true_same s = rw (eq-eqb s.low s.low refl, eq-eqb s.high s.high refl)
