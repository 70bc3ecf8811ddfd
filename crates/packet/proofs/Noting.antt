-- A tag noted in two words side by side, as the code sets its bit.
-- Assumes nothing.
use Prim.Native.Nat.{ℕ, ◌-◌, ◌*◌, ◌/◌, ◌%◌, ◌^◌, ◌<◌}
use native.Mathlib.Omega.{arith}
use native.Mathlib.Nat.{zero-mul}
use mathlib.Core.Path.{◌≡◌, ap, ◌∙◌}
use mathlib.Core.Bool.{Bool, true, false}
use mathlib.Core.List.{List, [], ◌∷◌}
use mir.Val.{bool_byte}
use lib.ListN.{length, get_or, set}
use lib.Bits.{bit_and, bit_or, and_mask, and_zero_l, or_zero_r}
use borrow.Author.Tests.{eqb-true, eqb-false, lt-ltb, le-ltb}
use Rattle.base.proofs.Cases.{by_bool, by_lt}
use Rattle.tagset.specs.Sets.{holds, with_tag}
use Rattle.tagset.proofs.Laws.{Words}
use Rattle.tagset.proofs.Words.{one_shl, bit_small}
use Rattle.packet.specs.code.Passing.{TwoWords, set_of, counted, noted, Notes}
use Rattle.packet.proofs.Glancing.{knows_tag}

pub two_set : {l : List ℕ} → TwoWords l → Words (set_of l)
two_set w = record { low64 = w.low; high64 = w.high }

-- the bit that is read, and the bit that is set
abbrev read_bit : List ℕ → ℕ → ℕ
read_bit l t = bit_and (get_or l (t / 64) 0 / 2 ^ (t % 64)) 1

abbrev set_bit : ℕ → Bool → ℕ → ℕ
set_bit b f t = bit_and b (bool_byte f) * 2 ^ (t % 64) % 2 ^ 64

abbrev word_set : List ℕ → ℕ → ℕ → List ℕ
word_set m t v = set m (t / 64) (bit_or (get_or m (t / 64) 0) v)

module _ (l : List ℕ) (two : TwoWords l) (t : ℕ) (below : t < 128) where
  read_small : read_bit l t < 2
  read_small = rw (and_mask (get_or l (t / 64) 0 / 2 ^ (t % 64)) 1) (bit_small (get_or l (t / 64) 0) (t % 64))

  read_known : holds (set_of l) t ≡ true → read_bit l t ≡ 1
  read_known e = eqb-true (read_bit l t) 1 (knows_tag l t below (two_set two) ∙ e)

  read_unknown : holds (set_of l) t ≡ false → read_bit l t ≡ 0
  read_unknown e = omega (arith, read_small, eqb-false (read_bit l t) 1 (knows_tag l t below (two_set two) ∙ e))

-- nothing is set
same_words : (m : List ℕ) (t : ℕ) → length m ≡ 2 → t < 128 → set_of (word_set m t 0) ≡ set_of m
same_words [] t e h = absurd (omega arith)
same_words (a ∷ []) t e h = absurd (omega arith)
same_words (a ∷ b ∷ m) t e h =
    by_lt t 64
    (λ k. let w : t / 64 ≡ 0 = omega arith in rw (w, or_zero_r a))
    (λ k. let w : t / 64 ≡ 1 = omega arith in rw (w, or_zero_r b))

-- the tag's bit is set
one_word : (m : List ℕ) (t : ℕ) → length m ≡ 2 → t < 128 → set_of (word_set m t (2 ^ (t % 64))) ≡ with_tag (set_of m) t
unfolding with_tag
one_word [] t e h = absurd (omega arith)
one_word (a ∷ []) t e h = absurd (omega arith)
one_word (a ∷ b ∷ m) t e h =
    by_lt t 64
    (λ k. let w : t / 64 ≡ 0 = omega arith in let s : t % 64 ≡ t = omega arith in rw (w, s, lt-ltb t 64 k))
    (λ k. let w : t / 64 ≡ 1 = omega arith in let s : t % 64 ≡ t - 64 = omega arith in rw (w, s, le-ltb t 64 k, lt-ltb t 128 h))

-- of a bit that is not there, or not fit, nothing
no_bit : (b : ℕ) (f : Bool) (t : ℕ) → bit_and b (bool_byte f) ≡ 0 → set_bit b f t ≡ 0
no_bit b f t e = ap (λ x. x * 2 ^ (t % 64) % 2 ^ 64) e ∙ ap (λ x. x % 2 ^ 64) (zero-mul (2 ^ (t % 64)))

module _ (l m : List ℕ) (t : ℕ) (f : Bool) (wl : TwoWords l) (wm : length m ≡ 2) (below : t < 128) where
  abbrev b : ℕ
  b = read_bit l t

  noting : (v : ℕ) → set_bit b f t ≡ v → b ≡ counted (set_of l) t → set_of (word_set m t v) ≡ noted (set_of l) (set_of m) t f
      → Notes l m t f b (word_set m t (set_bit b f t))
  noting v e count s = record { count = count; set = rw e s }

  pub note_tag : Notes l m t f b (word_set m t (set_bit b f t))
  note_tag =
      by_bool (holds (set_of l) t)
      (λ k.
      let one = read_known l wl t below k in
      by_bool f
      (λ e. noting (2 ^ (t % 64)) (rw (one, e) (one_shl (t % 64) (omega arith))) (rw k one)
      (rw (k, e) (one_word m t wm below)))
      (λ e. noting 0 (no_bit b f t (rw (one, e))) (rw k one) (rw (k, e) (same_words m t wm below))))
      (λ k.
      let none = read_unknown l wl t below k in
      noting 0 (no_bit b f t (rw none (and_zero_l (bool_byte f)))) (rw k none) (rw k (same_words m t wm below)))
