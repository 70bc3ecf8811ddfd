-- An item at a glance, by the bytes that the code looks at.
-- Assumes nothing.
use Prim.Native.Nat.{ℕ, ◌+◌, ◌-◌, ◌/◌, ◌%◌, ◌^◌, ◌<◌, ◌≤◌}
use native.Mathlib.Omega.{arith}
use mathlib.Core.Path.{◌≡◌, refl, ap, sym, ◌∙◌}
use mathlib.Core.Bool.{Bool, true, false, cond, ◌||◌}
use mathlib.Core.List.{List}
use lib.Dec.{leb, eqb}
use lib.ListN.{length, get_or, take, drop, length-take, length-drop}
use lib.Bits.{bit_and, bit_or, and_mask, and_le_l, and_le_r, or_add_and}
use borrow.Author.Tests.{leb-false, eqb-false, lt-ltb, le-ltb, lt-leb, le-leb, eq-eqb, ne_eqb}
use Rattle.base.proofs.Cases.{by_bool, by_lt, by_eq, clash}
use Rattle.number.specs.Stored.{Bytes, value_of}
use Rattle.number.proofs.Laws.{bytes_take, bytes_drop, value_small}
use Rattle.catalogue.specs.Items.{groups, member, item_in, item_of}
use Rattle.catalogue.specs.Extended.{is_extended, in_reach}
use Rattle.catalogue.specs.Shapes.{shape_of, shape_allows}
use Rattle.catalogue.specs.code.Column.{mask_column, length_mask, within, is_close}
use Rattle.catalogue.specs.declared.Shape.{Shape}
use Rattle.catalogue.specs.declared.Shape.TheVariants.{Text, Number, Absent}
use Rattle.catalogue.proofs.Columns.{neither, shape_beyond, number_ranged, mask_in_column, mask_within}
use Rattle.ber.specs.Written.{tag_bytes, length_bytes}
use Rattle.ber.proofs.Laws.{sized as length-sized}
use Rattle.tagset.specs.Sets.{holds, knowing}
use Rattle.tagset.proofs.Laws.{Words, holds_low, holds_high}
use Rattle.packet.specs.Verdict.{one_byte}
use Rattle.packet.specs.code.Headers.{short_forms}
use Rattle.packet.specs.code.Passing.{is_fit, FitAs, glance_of, asks_close, mask_at, PlainSeen}
use Rattle.packet.specs.declared.Header.{Header}
use Rattle.packet.specs.declared.Glance.{Glance}
use Rattle.packet.proofs.Steps.{short_item}
use Rattle.packet.proofs.Faults.{wraps_not}

-- a tag's bit in two words side by side
pub knows_tag : (l : List ℕ) (t : ℕ) → t < 128 → Words (knowing (get_or l 0 0) (get_or l 1 0))
    → eqb (bit_and (get_or l (t / 64) 0 / 2 ^ (t % 64)) 1) 1 ≡ holds (knowing (get_or l 0 0) (get_or l 1 0)) t
knows_tag l t h w =
    by_lt t 64
    (λ k.
    let a : t / 64 ≡ 0 = omega arith in
    let b : t % 64 ≡ t = omega arith in
    rw (a, b, and_mask (get_or l 0 0 / 2 ^ t) 1) (sym (holds_low (knowing (get_or l 0 0) (get_or l 1 0)) w t k)))
    (λ k.
    let a : t / 64 ≡ 1 = omega arith in
    let b : t % 64 ≡ t - 64 = omega arith in
    rw (a, b, and_mask (get_or l 1 0 / 2 ^ (t - 64)) 1) (sym (holds_high (knowing (get_or l 0 0) (get_or l 1 0)) w t k)))

-- two bytes of which the sum of bits is below 128
module _ (a b : ℕ) (small : bit_or a b < 128) where
  pub or_left : a < 128
  or_left = omega (arith, or_add_and a b, and_le_r a b)

  pub or_right : b < 128
  or_right = omega (arith, or_add_and a b, and_le_l a b)

-- a tag and a length that ask for no closer look: of one byte each, and there are bytes
module _ (a b : ℕ) (plain : asks_close a b ≡ false) where
  both_short : bit_or a b < 128
  both_short = leb-false 128 (bit_or a b) (neither (leb 128 (bit_or a b)) _ plain).0

  pub below_tag : a < 128
  below_tag = or_left a b both_short

  pub below_size : b < 128
  below_size = or_right a b both_short

  some_size : b ≡ 0 → ⊥
  some_size = eqb-false b 0 (neither (leb 128 (bit_or a b)) _ plain).1

-- a mask that asks for no closer look, by tag and length
pub mask_plain : (p : List ℕ) (at m : ℕ) → m ≡ mask_at p at → m < 128
    → (asks_close (get_or p at 0) (get_or p (at + 1) 0) ≡ false) × (m ≡ get_or mask_column (get_or p at 0) 0)
mask_plain p at m e h =
    by_bool (asks_close (get_or p at 0) (get_or p (at + 1) 0))
    (λ b. absurd (omega (arith, h, rw b at e)))
    (λ b. (b, rw b at e))

-- a tag whose mask asks for no closer look is neither 0 nor that of an extended height
either : (a b : Bool) (n : ℕ) → cond (a || b) 128 n < 128 → (a ≡ false) × (b ≡ false)
either true b n e = absurd (omega arith)
either false true n e = absurd (omega arith)
either false false n e = (refl, refl)

pub plain_tag : (t : ℕ) → t < 128 → get_or mask_column t 0 < 128 → (t ≡ 0 → ⊥) × (is_extended t ≡ false)
plain_tag t h e =
    let f = either (eqb t 0) (is_extended t) (length_mask (shape_of t)) (rw (mask_in_column t h) at e) in
    (λ q. clash (sym (eq-eqb t 0 q) ∙ f.0), f.1)

-- no number and no text has 128 bytes or more
too_long : (t n : ℕ) (s : Shape) → shape_of t ≡ s → 128 ≤ n → shape_allows s n ≡ false
too_long t n Text e h = rw (lt-ltb 0 n (omega arith), le-ltb n 128 h)
too_long t n (Number l m k) e h =
    let r = number_ranged t l m k e in
    rw (le-leb l n (omega (arith, r.order, r.few)), lt-leb n m (omega (arith, r.few)))
too_long t n Absent e h = refl

module _ (p : List ℕ) (h : Header) (inside : h.place + h.size ≤ length p) where
  value_length : length (take h.size (drop h.place p)) ≡ h.size
  value_length = rw (length-take, length-drop) (omega arith)

  -- an item of the catalogue has a tag of one byte
  pub below : (shape_of h.tag ≡ Absent → ⊥) → h.tag < 128
  below there = by_lt h.tag 128 (λ k. k) (λ k. absurd (there (shape_beyond h.tag k)))

  pub short_tag_same : (shape_of h.tag ≡ Absent → ⊥) → one_byte h.tag ≡ h.tag
  short_tag_same there = rw (lt-ltb h.tag 128 (below there))

  not_zero : (shape_of h.tag ≡ Absent → ⊥) → (eqb h.tag 0 || false) ≡ false
  unfolding shape_of item_of item_in member groups
  not_zero there = by_eq h.tag 0 (λ z. absurd (there (ap shape_of z))) (λ z. rw (ne_eqb h.tag 0 z))

  -- without bytes
  pub empty_fits : h.size ≡ 0 → FitAs p h true
  unfolding is_fit
  empty_fits z there = rw (value_length, z)

  -- by its length alone
  pub plain_fits : (f : Bool) → f ≡ within (get_or mask_column (one_byte h.tag) 0) h.size → h.size < 128
      → is_extended (one_byte h.tag) ≡ false → FitAs p h f
  unfolding is_fit
  plain_fits f e few free there =
      let u = short_tag_same there in
      let k = below there in
      let x : is_extended h.tag ≡ false = ap is_extended (sym u) ∙ free in
      let c : is_close h.tag ≡ false = rw x (not_zero there) in
      let mask : get_or mask_column (one_byte h.tag) 0 ≡ length_mask (shape_of h.tag) =
      ap (λ t. get_or mask_column t 0) u ∙ (mask_in_column h.tag k ∙ rw c) in
      e ∙ rw (mask, x, value_length) (mask_within h.tag h.size (shape_of h.tag) k x refl there few)

  -- by a length of more than one byte, which none of one length and no text has
  pub long_fits : 128 ≤ h.size → is_extended (one_byte h.tag) ≡ false → FitAs p h false
  unfolding is_fit
  long_fits long free there =
      let x : is_extended h.tag ≡ false = ap is_extended (sym (short_tag_same there)) ∙ free in
      rw (value_length, ne_eqb h.size 0 (λ z. omega arith), x) (sym (too_long h.tag h.size (shape_of h.tag) refl long))

  -- by length and code
  pub height_fits : (f : Bool) → f ≡ in_reach h.size (value_of (take h.size (drop h.place p)) % 2 ^ 64) → (h.size ≡ 0 → ⊥) → Bytes p
      → is_extended (one_byte h.tag) ≡ true → FitAs p h f
  unfolding is_fit in_reach
  height_fits f e some by x there =
      let y : is_extended h.tag ≡ true = ap is_extended (sym (short_tag_same there)) ∙ x in
      let v : List ℕ = take h.size (drop h.place p) in
      let small : value_of v < 256 ^ h.size = rw value_length at (value_small v (bytes_take h.size (drop h.place p) (bytes_drop h.place by))) in
      e ∙ rw (y, value_length, ne_eqb h.size 0 some) (by_lt 4 h.size
      (λ k. rw (lt-leb h.size 4 k))
      (λ k. rw (wraps_not h.size (value_of v) small (omega arith))))

module _ (p : List ℕ) (at : ℕ) where
  -- a tag and a length of one byte each
  module _ (inside : at + 2 ≤ length p) (some : get_or p at 0 ≡ 0 → ⊥) (plain : asks_close (get_or p at 0) (get_or p (at + 1) 0) ≡ false) where
    short : short_forms (get_or p at 0) (get_or p (at + 1) 0) ≡ true
    unfolding short_forms
    short =
        rw (
          lt-ltb 0 (get_or p at 0) (omega arith),
          lt-ltb (get_or p at 0) 128 (below_tag (get_or p at 0) (get_or p (at + 1) 0) plain),
          lt-ltb (get_or p (at + 1) 0) 128 (below_size (get_or p at 0) (get_or p (at + 1) 0) plain),
        )

    none_longer : (t n : ℕ) → 0 < t → t < 128 → n < 128 → at + 1 + 1 - at - length (tag_bytes t) - length (length_bytes n) ≡ 0
    unfolding tag_bytes
    none_longer t n some h k =
        let a : length (tag_bytes t) ≡ 1 = rw (lt-ltb t 128 h, ne_eqb t 0 (λ z. omega arith)) in
        omega (arith, a, (length-sized n (omega arith)).some)

    abbrev short_glance : ℕ → ℕ → Bool → Glance
    short_glance t n f = record { tag = t; fit = f; empty = false; place = at + 1 + 1 + n; past = at + 1 + 1 + n; longer = 0 }

    one_byte_glance : (t n : ℕ) (f : Bool) → 0 < t → t < 128 → (n ≡ 0 → ⊥) → n < 128 → is_extended t ≡ false
        → short_glance t n f ≡ glance_of (record { tag = t; start = at; place = at + 1 + 1; size = n }) f
    one_byte_glance t n f some h bytes k x = rw (lt-ltb t 128 h, x, ne_eqb n 0 bytes, none_longer t n some h k)

    -- the mask is the tag's
    pub glance_short : (f : Bool) → f ≡ within (get_or mask_column (get_or p at 0) 0) (get_or p (at + 1) 0) → is_extended (get_or p at 0) ≡ false
        → at + 1 + 1 + get_or p (at + 1) 0 ≤ length p → PlainSeen p at (short_glance (get_or p at 0) (get_or p (at + 1) 0) f)
    glance_short f e x h =
        let t : ℕ = get_or p at 0 in
        let n : ℕ = get_or p (at + 1) 0 in
        let below : t < 128 = below_tag t n plain in
        let few : n < 128 = below_size t n plain in
        let header : Header = record { tag = t; start = at; place = at + 1 + 1; size = n } in
        record {
          seen = record {
            header = header;
            found = short_item p at _ _ refl refl (omega arith) (omega arith) short h;
            same = one_byte_glance t n f (omega arith) below (some_size t n plain) few x;
            fits = plain_fits p header h f (rw (lt-ltb t 128 below) e) few (rw (lt-ltb t 128 below) x);
          };
          some = refl;
        }
