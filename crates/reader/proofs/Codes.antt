-- The code and the kind of a value, by the eight bytes that end with it and its shape's byte.
-- Assumes nothing.
use Prim.Native.Nat.{ℕ, ◌+◌, ◌-◌, ◌*◌, ◌/◌, ◌%◌, ◌^◌, ◌<◌, ◌≤◌}
use native.Mathlib.Omega.{arith}
use native.Mathlib.Nat.{mod-eq_of_lt, mul-mod_left, mul-div_cancel, div-div-eq-div-mul, mod-add-div', add-mul-mod_self_right, eq_of_mul-eq-mul_right}
use mathlib.Core.Path.{◌≡◌, refl, ap, sym, ◌∙◌}
use mathlib.Core.Bool.{Bool, true, false, cond}
use mathlib.Core.List.{List, [], ◌∷◌, ◌++◌}
use lib.Dec.{eqb}
use lib.ListN.{length, take, drop, length-take, length-drop}
use lib.Seq.{take-add, drop-drop}
use lib.Pow.{pow-add, pow_pos}
use lib.Arith.{digits_mod, mod-mul}
use borrow.Author.Tests.{eq-eqb, ne_eqb}
use Rattle.base.proofs.Cases.{by_eq}
use Rattle.number.specs.Stored.{Bytes, value_from, value_of}
use Rattle.number.proofs.Laws.{bytes_take, bytes_drop, bytes_value, value_bytes, value_small, bits_bytes}
use lib.Bits.{bit_and, and_zero_l, and_zero_r}
use Rattle.catalogue.specs.code.Column.{shape_mask, shape_byte}
use Rattle.catalogue.specs.declared.Shape.{Shape}
use Rattle.catalogue.specs.declared.Shape.TheVariants.{Text, Number, Absent}
use Rattle.rows.specs.Meaning.{mark_code, value_as, carried_kind, withdrawn_kind}
use Rattle.rows.proofs.Laws.{code_seen}
use Rattle.rows.specs.Meaning.{meaning_of, kind_of, code_of}
use Rattle.reader.specs.code.Filling.{Fitting, Narrow, top_of, kind_by}

-- bytes after others: what those say stands above
value_after : (h : ℕ) (l : List ℕ) → Bytes l → value_from h l ≡ h * 256 ^ length l + value_of l
value_after h l by =
    ap (value_from h) (sym (bytes_value 0 l by))
    ∙ (value_bytes h (length l) (value_of l) ∙ ap (λ x. h * 256 ^ length l + x) (mod-eq_of_lt (value_small l by)))

value_append : (h : ℕ) (l m : List ℕ) → value_from h (l ++ m) ≡ value_from (value_from h l) m
unfolding value_from
value_append h [] m = refl
value_append h (a ∷ l) m = value_append (h * 256 + a) l m

-- the last n of eight bytes say what the eight say, modulo 256 ^ n
pub value_last : (p : List ℕ) (end place n : ℕ) → Bytes p → place + n ≡ end → n ≤ 8 → 8 ≤ end → end ≤ length p
    → value_of (take (end - (end - 8)) (drop (end - 8) p)) % 2 ^ 64 % 256 ^ n ≡ value_of (take n (drop place p))
value_last p end place n by e few past inside =
    let l : List ℕ = drop (end - 8) p in
    let v : List ℕ = take n (drop place p) in
    let eight : end - (end - 8) ≡ 8 - n + n = omega arith in
    let there : end - 8 + (8 - n) ≡ place = omega arith in
    let parts : take (end - (end - 8)) l ≡ take (8 - n) l ++ v =
    ap (λ k. take k l) eight ∙ (take-add (8 - n) n l ∙ ap (λ m. take (8 - n) l ++ take n m) (drop-drop (8 - n) (end - 8) p ∙ ap (λ k. drop k p) there)) in
    let byl : Bytes l = bytes_drop (end - 8) by in
    let byv : Bytes v = bytes_take n (drop place p) (bytes_drop place by) in
    let size : length v ≡ n = rw (length-take, length-drop) (omega arith) in
    let whole : length (take (end - (end - 8)) l) ≡ 8 = rw (length-take, length-drop) (omega arith) in
    let small : value_of (take (end - (end - 8)) l) < 2 ^ 64 = rw whole at (value_small (take (end - (end - 8)) l) (bytes_take (end - (end - 8)) l byl)) in
    let less : value_of v < 256 ^ n = rw size at (value_small v byv) in
    let sum : value_of (take (end - (end - 8)) l) ≡ value_of (take (8 - n) l) * 256 ^ n + value_of v =
    ap value_of parts ∙ (value_append 0 (take (8 - n) l) v ∙ (value_after (value_of (take (8 - n) l)) v byv
    ∙ ap (λ k. value_of (take (8 - n) l) * 256 ^ k + value_of v) size)) in
    ap (λ x. x % 256 ^ n) (mod-eq_of_lt small ∙ sum) ∙ digits_mod (value_of (take (8 - n) l)) less

-- a product modulo m takes no more of a factor than that
mod_times : (y a m : ℕ) → y % m * a % m ≡ y * a % m
mod_times y a m =
    let e : y * a ≡ y % m * a + y / m * a * m = omega (arith, ap (λ x. x * a) (mod-add-div' y m)) in
    sym (ap (λ x. x % m) e ∙ add-mul-mod_self_right (y % m * a) (y / m * a) m)

-- moved by halves
module _ (w : ℕ) (few : w ≤ 8) where
  halves : 2 ^ (32 - 4 * w) * 2 ^ (32 - 4 * w) ≡ 2 ^ (64 - 8 * w)
  halves = let e : 64 - 8 * w ≡ 32 - 4 * w + (32 - 4 * w) = omega arith in sym (ap (λ k. 2 ^ k) e ∙ pow-add 2 (32 - 4 * w) (32 - 4 * w))

  pub moved_up : (x : ℕ) → x * 2 ^ (32 - 4 * w) % 2 ^ 64 * 2 ^ (32 - 4 * w) % 2 ^ 64 ≡ top_of w x
  moved_up x =
      let a : ℕ = 2 ^ (32 - 4 * w) in
      let e : x * a * a ≡ x * 2 ^ (64 - 8 * w) = omega (arith, ap (λ k. x * k) halves) in
      mod_times (x * a) a (2 ^ 64) ∙ ap (λ y. y % 2 ^ 64) e

  pub moved_down : (x : ℕ) → x / 2 ^ (32 - 4 * w) / 2 ^ (32 - 4 * w) ≡ x / 2 ^ (64 - 8 * w)
  moved_down x = div-div-eq-div-mul x (2 ^ (32 - 4 * w)) (2 ^ (32 - 4 * w)) ∙ ap (λ k. x / k) halves

  abbrev above : ℕ
  above = 2 ^ (64 - 8 * w)

  room : 256 ^ w * above ≡ 2 ^ 64
  room =
      let e : 64 ≡ 8 * w + (64 - 8 * w) = omega arith in
      sym (ap (λ k. 2 ^ k) e ∙ (pow-add 2 (8 * w) (64 - 8 * w) ∙ ap (λ k. k * above) (bits_bytes w)))

  module _ (x : ℕ) where
    -- at the top stand the lowest bytes alone
    top_is : top_of w x ≡ x % 256 ^ w * above
    top_is =
        let some : 0 < 256 ^ w = rw (bits_bytes w) at (pow_pos (8 * w)) in
        ap (λ m. x * above % m) (sym room)
        ∙ (mod-mul (x * above) some (pow_pos (64 - 8 * w))
        ∙ rw (mul-div_cancel x (pow_pos (64 - 8 * w)), mul-mod_left x above) (omega arith))

    low_is : top_of w x / above ≡ x % 256 ^ w
    low_is = ap (λ t. t / above) top_is ∙ mul-div_cancel (x % 256 ^ w) (pow_pos (64 - 8 * w))

    -- the mark is the top bit alone
    mark_is : 1 ≤ w → eqb (top_of w x) (2 ^ 63) ≡ eqb (x % 256 ^ w) (mark_code w)
    mark_is some =
        let e : 63 ≡ 8 * w - 1 + (64 - 8 * w) = omega arith in
        let top : 2 ^ 63 ≡ mark_code w * above = ap (λ k. 2 ^ k) e ∙ pow-add 2 (8 * w - 1) (64 - 8 * w) in
        ap (λ t. eqb t (2 ^ 63)) top_is
        ∙ by_eq (x % 256 ^ w) (mark_code w)
        (λ f. eq-eqb _ _ (ap (λ t. t * above) f ∙ sym top) ∙ sym (eq-eqb _ _ f))
        (λ f. ne_eqb _ _ (λ g. f (eq_of_mul-eq-mul_right above (pow_pos (64 - 8 * w)) _ _ (g ∙ top))) ∙ sym (ne_eqb _ _ f))

-- what the code makes of a shape's byte, a length and a word that ends with the value
abbrev pub width_by : ℕ → ℕ → ℕ
width_by b n = bit_and n (b % 16)

pub record Tells (s : Shape) (v : List ℕ) (word : ℕ) : Type 0 where
  pub small : shape_byte s < 256
  pub few : width_by (shape_byte s) (length v) ≤ 8
  pub code : top_of (width_by (shape_byte s) (length v)) word / 2 ^ (64 - 8 * width_by (shape_byte s) (length v)) ≡ code_of (meaning_of s v)
  pub kind : kind_by (shape_byte s) (length v) (top_of (width_by (shape_byte s) (length v)) word) ≡ kind_of (meaning_of s v)

module _ (v : List ℕ) (word : ℕ) where
  code_none : top_of 0 word / 2 ^ 64 ≡ 0
  code_none = low_is 0 (omega arith) word ∙ omega arith

  same_kind : (c : Bool) (k : ℕ) → cond c (k + 0) k ≡ k
  same_kind true k = omega arith
  same_kind false k = refl

  -- no bytes: withdrawn, if it is not carried
  tells_none : length v ≡ 0 → (s : Shape) → shape_byte s < 256
      → cond (eqb (shape_byte s / 16 % 8) carried_kind) carried_kind withdrawn_kind ≡ kind_of (meaning_of s v) → code_of (meaning_of s v) ≡ 0 → Tells s v word
  tells_none z s small kind code =
      let w : width_by (shape_byte s) (length v) ≡ 0 = rw z (and_zero_l (shape_byte s % 16)) in
      let top = top_of (width_by (shape_byte s) (length v)) word in
      record { small = small; few = omega (arith, w); code = rw (w, code) code_none; kind = ap (λ n. kind_by (shape_byte s) n top) z ∙ kind }

  -- no number: a byte of no mask that has no mark
  tells_bytes : (length v ≡ 0 → ⊥) → (s : Shape) (k : ℕ) → shape_byte s < 256 → shape_byte s % 16 ≡ 0 → shape_byte s / 16 % 8 ≡ k → shape_byte s / 128 ≡ 0
      → code_of (meaning_of s v) ≡ 0 → kind_of (meaning_of s v) ≡ k → Tells s v word
  tells_bytes some s k small mask kind mark code is =
      let w : width_by (shape_byte s) (length v) ≡ 0 = rw mask (and_zero_r (length v)) in
      record {
        small = small;
        few = omega (arith, w);
        code = rw (w, code) code_none;
        kind = rw (w, is, ne_eqb (length v) 0 some, kind, mark) (same_kind (eqb (top_of 0 word) (2 ^ 63)) k);
      }

  -- a number of its length
  module _ (some : length v ≡ 0 → ⊥) (last : word % 256 ^ length v ≡ value_of v) (l m : ℕ) (k : Bool) (fits : Fitting (Number l m k) k m (length v)) where
    tells_number : (b : ℕ) → shape_byte (Number l m k) ≡ b → b < 256 → b % 16 ≡ shape_mask (Number l m k) → b / 16 % 8 ≡ 1 → b / 128 ≡ cond k 1 0
        → Tells (Number l m k) v word
    tells_number b e small mask kind mark =
        let n : ℕ = length v in
        let w : width_by b n ≡ n = rw mask fits.within in
        record {
          small = rw e small;
          few = rw (e, w) fits.few;
          code = rw (e, w) (low_is n fits.few word ∙ (last ∙ sym (code_seen n v l m k (value_of v) some)));
          kind = rw (e, w, ne_eqb n 0 some, kind, mark, mark_is n fits.few word (omega arith), last)
              (by_mark k (eqb (value_of v) (mark_code n)) refl fits.one);
        }
      where
        by_mark : (k c : Bool) → eqb (value_of v) (mark_code (length v)) ≡ c → (k ≡ true → length v ≡ m)
            → cond c (1 + cond k 1 0) 1 ≡ kind_of (value_as (Number l m k) (value_of v) (length v) v)
        by_mark true true f one = rw (← one refl, f)
        by_mark true false f one = rw (← one refl, f)
        by_mark false true f one = refl
        by_mark false false f one = refl

  -- a number's byte: that of a reading, with its mask
  number_none : length v ≡ 0 → (l m : ℕ) (k : Bool) → shape_mask (Number l m k) ≤ 8 → Tells (Number l m k) v word
  number_none z l m true mask =
      let b : (144 + shape_mask (Number l m true)) / 16 % 8 ≡ 1 = omega arith in
      tells_none z (Number l m true) (omega arith) (rw (b, z)) (rw z)
  number_none z l m false mask =
      let b : (16 + shape_mask (Number l m false)) / 16 % 8 ≡ 1 = omega arith in
      tells_none z (Number l m false) (omega arith) (rw (b, z)) (rw z)

  none : length v ≡ 0 → (s : Shape) → Narrow s (length v) → Tells s v word
  none z Text f = tells_none z Text (omega arith) (rw z) (rw z)
  none z (Number l m k) f = number_none z l m k f.mask
  none z Absent f = tells_none z Absent (omega arith) refl refl

  valued : (length v ≡ 0 → ⊥) → (s : Shape) → Narrow s (length v) → (length v ≤ 8 → word % 256 ^ length v ≡ value_of v) → Tells s v word
  valued some Text f last = tells_bytes some Text 3 (omega arith) refl refl refl (rw (ne_eqb (length v) 0 some)) (rw (ne_eqb (length v) 0 some))
  valued some (Number l m true) f last =
      tells_number some (last (f.fits some).few) l m true (f.fits some) (144 + shape_mask (Number l m true)) refl
      (omega (arith, f.mask)) (omega (arith, f.mask)) (omega (arith, f.mask)) (omega (arith, f.mask))
  valued some (Number l m false) f last =
      tells_number some (last (f.fits some).few) l m false (f.fits some) (16 + shape_mask (Number l m false)) refl
      (omega (arith, f.mask)) (omega (arith, f.mask)) (omega (arith, f.mask)) (omega (arith, f.mask))
  valued some Absent f last = tells_bytes some Absent 4 (omega arith) refl refl refl refl refl

  pub tells : (s : Shape) → Narrow s (length v) → (length v ≤ 8 → word % 256 ^ length v ≡ value_of v) → Tells s v word
  tells s f last = by_eq (length v) 0 (λ z. none z s f) (λ some. valued some s f last)
