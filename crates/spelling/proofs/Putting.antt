-- Text put at a place: two digits for each byte, digits one after the other, and a minus sign before them.
-- Assumes nothing.
use Prim.Native.Nat.{ℕ, suc, ◌+◌, ◌*◌, ◌-◌, ◌/◌, ◌%◌, ◌<◌, ◌≤◌}
use native.Mathlib.Omega.{arith}
use native.Mathlib.Numerals.{add-one}
use mathlib.Core.Path.{◌≡◌, refl, ap, ◌∙◌}
use mathlib.Core.List.{List, [], ◌∷◌, ◌++◌, append_assoc}
use lib.ListN.{length, get_or, take, set, length-append}
use lib.Seq.{take-suc, length-take-le}
use Rattle.base.specs.Putting.{Puts, Room, Wrote, put_into}
use borrow.Rule.Slice.PartMut.{mid_of, put_mid}
use Rattle.base.proofs.Putting.{part-length, part_put, put_one, put_next, no_room, all_put, all_wrote, room_of, room_first, room_after, wrote_as, wrote_then}
use Rattle.spelling.specs.Spelling.{digits, hex_digit, hex}
use Rattle.spelling.proofs.Laws.{hex_length}
use Rattle.spelling.proofs.Digits.{length_digits}

hex_append : (l m : List ℕ) → hex (l ++ m) ≡ hex l ++ hex m
unfolding hex
hex_append [] m = refl
hex_append (b ∷ l) m = ap (λ x. hex_digit (b / 16) ∷ hex_digit (b % 16) ∷ x) (hex_append l m)

hex_next : (l : List ℕ) (i : ℕ) → i < length l
    → hex (take (i + 1) l) ≡ hex (take i l) ++ (hex_digit (get_or l i 0 / 16) ∷ hex_digit (get_or l i 0 % 16) ∷ [])
unfolding hex
hex_next l i h = rw (add-one, take-suc l i 0 h, hex_append)

-- two digits more
module _ (o : List ℕ) (at : ℕ) (out : List ℕ) (i : ℕ) (l : List ℕ) (h : i < length l) where
  pub hex_put : (high low : ℕ) → high ≡ hex_digit (get_or l i 0 / 16) → low ≡ hex_digit (get_or l i 0 % 16) → at + 2 * length l ≤ length o
      → out ≡ put_into o at (hex (take i l)) → set (set out (at + 2 * i) high) (at + 2 * i + 1) low ≡ put_into o at (hex (take (i + 1) l))
  hex_put high low eh el room e =
      let bs : List ℕ = hex (take i l) in
      let k : length bs ≡ 2 * i = hex_length (take i l) ∙ ap (λ x. 2 * x) (length-take-le i l (omega arith)) in
      let first : set (put_into o at bs) (at + 2 * i) high ≡ put_into o at (bs ++ (high ∷ [])) =
      rw k at (put_next o at bs high (rw k (omega arith))) in
      let j : at + length (bs ++ (high ∷ [])) ≡ at + 2 * i + 1 = rw length-append (omega arith) in
      let second : set (put_into o at (bs ++ (high ∷ []))) (at + 2 * i + 1) low ≡ put_into o at (bs ++ (high ∷ []) ++ (low ∷ [])) =
      rw j at (put_next o at (bs ++ (high ∷ [])) low (rw j (omega arith))) in
      rw (e, first, second, append_assoc bs (high ∷ []) (low ∷ []), eh, el, hex_next l i h)

-- the lowest digits
module _ {o : List ℕ} {at : ℕ} (k n : ℕ) (h : Room o at (digits k n)) where
  pub digits_fit : at + k ≤ length o
  digits_fit = omega (arith, length_digits k n, h.fits)

  pub digits_wrote : {part : List ℕ} → part ≡ digits (length (mid_of at (at + k - at) o)) n → Wrote o at (digits k n) (at + k) (put_mid at (at + k - at) o part)
  digits_wrote e =
      let l : length (mid_of at (at + k - at) o) ≡ k = part-length o at k digits_fit in
      all_wrote o at k (digits k n) (length_digits k n) digits_fit _ (rw (e, l) (part_put o at k digits_fit (digits k n) (length_digits k n)))

-- what was put, by the place after it
pub wrote_puts : {o : List ℕ} {at : ℕ} {bs : List ℕ} {n : ℕ} {o' : List ℕ} → Wrote o at bs n o' → Puts o at bs (n - at) o'
wrote_puts {o} {at} {bs} {n} {o'} w =
    let e : length bs ≡ n - at = omega (arith, w.after) in
    all_put o at (n - at) bs e (omega (arith, w.after, w.inside)) o' w.output

-- a minus sign, and a number after it
pub minus_short : (o : List ℕ) (at : ℕ) (bs : List ℕ) → length o < at + 1 + length bs → Puts o at (45 ∷ bs) 0 o
minus_short o at bs h = no_room o at (suc (length bs)) (45 ∷ bs) refl (omega arith)

pub minus_wrote : (o : List ℕ) {at : ℕ} {bs : List ℕ} {n : ℕ} {o' : List ℕ} → at < length o → Wrote (set o at 45) (at + 1) bs n o'
    → Wrote o at (45 ∷ bs) n o'
minus_wrote o {at} h w = wrote_then (all_wrote o at 1 (45 ∷ []) refl (omega arith) _ (put_one o at 45 h)) w

-- a text in two parts
module _ {o : List ℕ} {at : ℕ} {high : List ℕ} (low : List ℕ) {text : List ℕ} (e : high ++ low ≡ text) where
  pub high_room : Room o at text → Room o at high
  high_room h = room_first low (room_of e h)

  module _ {m : ℕ} {o₁ : List ℕ} (w : Wrote o at high m o₁) where
    pub low_room : Room o at text → Room o₁ m low
    low_room h = room_after w (room_of e h)

    pub both_wrote : {n : ℕ} {o₂ : List ℕ} → Wrote o₁ m low n o₂ → Wrote o at text n o₂
    both_wrote v = wrote_as e (wrote_then w v)
