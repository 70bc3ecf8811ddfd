-- How many tags a set holds: by the bits of its words, and with a tag more.
-- Assumes nothing.
use Prim.Native.Nat.{ℕ, zero, suc, ◌+◌, ◌/◌, ◌%◌, ◌^◌, ◌<◌}
use native.Mathlib.Omega.{arith}
use native.Mathlib.Nat.{mod-eq_of_lt, mod-lt}
use mathlib.Core.Path.{◌≡◌, refl, ap, sym, ◌∙◌}
use mathlib.Core.Bool.{true, false, cond}
use lib.Dec.{eqb}
use lib.Count.{ones, ones_cat}
use lib.Pow.{pow_pos, mod-pow-add, high, low}
use Rattle.base.proofs.Cases.{by_eq}
use Rattle.tagset.specs.Sets.{no_tags, pair, holds, count_below, with_tag, size}
use Rattle.tagset.specs.declared.TagSet.{TagSet}
use Rattle.tagset.proofs.Laws.{Words, with_it, with_other}
use Rattle.tagset.proofs.Words.{bit, bit_small}

-- the tags below one are the set bits of the pair below it
ones_bit : (b : ℕ) → b < 2 → ones b ≡ cond (eqb b 1) 1 0
unfolding ones
ones_bit zero h = refl
ones_bit (suc zero) h = refl
ones_bit (suc (suc b)) h = absurd (omega arith)

count_ones : (s : TagSet) (t : ℕ) → count_below s t ≡ ones (pair s % 2 ^ t)
unfolding count_below holds ones
count_ones s zero = ap ones (let z : 0 ≡ pair s % 1 = omega arith in z)
count_ones s (suc t) =
    let n : ℕ = pair s in
    ap (λ c. cond (holds s t) 1 0 + c) (count_ones s t)
    ∙ (ap (λ c. c + ones (n % 2 ^ t)) (sym (ones_bit (bit n t) (bit_small n t)))
    ∙ (sym (ones_cat t (bit n t) (n % 2 ^ t) (mod-lt n (pow_pos t)))
    ∙ (ap ones (sym (mod-pow-add n 1 t)) ∙ ap (λ k. ones (n % 2 ^ k)) (let e : 1 + t ≡ suc t = omega arith in e))))

-- all of them are those of the two words
pub size_ones : (s : TagSet) → Words s → ones s.low + ones s.high ≡ size s
unfolding size
size_ones s w =
    let h : ℕ = s.high in
    let l : ℕ = s.low in
    let above : pair s / 2 ^ 64 % 2 ^ 64 ≡ h = ap (λ x. x % 2 ^ 64) (high h 64 w.low64) ∙ mod-eq_of_lt w.high64 in
    let whole : pair s % 2 ^ 128 ≡ pair s = mod-pow-add (pair s) 64 64 ∙ rw (above, low h 64 w.low64) in
    sym (count_ones s 128 ∙ (ap ones whole ∙ (ones_cat 64 h l w.low64 ∙ omega arith)))

pub size_none : size no_tags ≡ 0
unfolding size count_below holds
size_none = refl

-- sets that hold the same tags
pub count_same : (s r : TagSet) (n : ℕ) → ((t : ℕ) → t < n → holds s t ≡ holds r t) → count_below s n ≡ count_below r n
unfolding count_below
count_same s r zero h = refl
count_same s r (suc n) h = rw (h n (omega arith), count_same s r n (λ t k. h t (omega arith)))

-- a set that holds one tag more than another
count_more : (s r : TagSet) (t n : ℕ) → t < n → holds s t ≡ true → holds r t ≡ false → ((u : ℕ) → (u ≡ t → ⊥) → holds s u ≡ holds r u)
    → count_below s n ≡ suc (count_below r n)
unfolding count_below
count_more s r t zero k e f h = absurd (omega arith)
count_more s r t (suc n) k e f h =
    by_eq n t
    (λ q.
    let e' : holds s n ≡ true = ap (holds s) q ∙ e in
    let f' : holds r n ≡ false = ap (holds r) q ∙ f in
    let below : count_below s n ≡ count_below r n = count_same s r n (λ u l. h u (λ z. omega arith)) in
    rw (e', f', below) (omega arith))
    (λ q. rw (h n q, count_more s r t n (omega arith) e f h) (omega arith))

module _ (s : TagSet) (w : Words s) (t : ℕ) (below : t < 128) where
  pub with_new : holds s t ≡ false → size (with_tag s t) ≡ suc (size s)
  unfolding size
  with_new e = count_more (with_tag s t) s t 128 below (with_it s w t below) e (with_other s w t)

  pub with_held : holds s t ≡ true → size (with_tag s t) ≡ size s
  unfolding size
  with_held e =
      count_same (with_tag s t) s 128 (λ u _. by_eq u t
      (λ q. ap (holds (with_tag s t)) q ∙ (with_it s w t below ∙ (sym e ∙ ap (holds s) (sym q))))
      (with_other s w t u))
