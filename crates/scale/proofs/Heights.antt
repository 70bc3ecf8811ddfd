-- W-202, extended heights: what the answers for 103, 104 and 105 promise, over the length n. Document 01's "nearest code" and "within half a step"
-- are changed for them, "a tie never occurs" does not hold, and trips there and back need not come to rest at once.
-- Assumes nothing.
use Prim.Native.Nat.{ℕ, ◌+◌, ◌*◌, ◌<◌, ◌≤◌}
use native.Mathlib.Omega.{arith}
use mathlib.Core.Path.{◌≡◌, refl, sym, ◌∙◌}
use mathlib.Core.Bool.{true}
use lib.IntN.{ℤ, pos, neg_ℤ, nat_abs, ◌-ℤ◌}
use Rattle.refusal.specs.Answer.{given}
use Rattle.catalogue.specs.Items.{groups, member, item_in, item_of}
use Rattle.catalogue.specs.Shapes.{shape_of, length_allowed}
use Rattle.catalogue.specs.Extended.{is_extended, per_two_metres, in_reach}
use Rattle.scale.specs.Nearest.{nearest}
use Rattle.scale.specs.Extended.{low_end, high_end, extended_house, extended_code, extended_miss}
use Rattle.scale.specs.Conversions.{height_given, to_house, sent_given, to_code}
use Rattle.scale.specs.declared.House.{House}
use Rattle.scale.specs.declared.Code.{Code}
use Rattle.scale.proofs.Classes.{height_lengths}
use Rattle.scale.proofs.Given.{Gives, height_converts, height_is_sent, height-given, sent-given}
use Rattle.scale.proofs.Extended.{NearestHeight, nearest_height, CodeBelow, code-below, within_step, CodeBack, code_back, value_back}
use Rattle.scale.proofs.Extended.{height_inside, sent_in_reach, whole_back, fine_half}

module _ (t n : ℕ) (x : is_extended t ≡ true) where
  -- the number shown is the nearest, at a tie the upper one
  pub height_nearest : (code : ℕ) (h : House) → to_house t n code ≡ given h → NearestHeight n code h.value
  height_nearest code h p = rw (height-given t n code h x p).made (nearest_height n code)

  -- the code sent is the greatest whose exact value is not above the value; it is in reach, so it converts back
  pub sent_below : (v : ℤ) (c : Code) → to_code t n v ≡ given c → CodeBelow n v c.code
  sent_below v c p = let g = sent-given t n v c x p in rw g.made (code-below n v g.fit)

  pub sent_reached : (v : ℤ) (c : Code) → to_code t n v ≡ given c → in_reach n c.code ≡ true
  sent_reached v c p =
      let g = sent-given t n v c x p in
      rw g.made (sent_in_reach n v (sym (height_lengths t n x) ∙ g.allowed) g.fit)

  pub sent_converts : (v : ℤ) (c : Code) → to_code t n v ≡ given c → to_house t n c.code ≡ given (height_given n c.code)
  sent_converts v c p = height_converts t n x c.code (sent_reached v c p)

  -- value to code to value: within a whole step, of 2000 / per_two_metres n house units, and half a unit
  pub height_within : (v : ℤ) (c : Code) (h : House) → to_code t n v ≡ given c → to_house t n c.code ≡ given h
      → 2 * (per_two_metres n * nat_abs (h.value -ℤ v)) ≤ 4000 + per_two_metres n
  height_within v c h p q =
      let g = sent-given t n v c x p in
      rw ((height-given t n c.code h x q).made, g.made) (within_step n v g.fit)

  -- and where a step is smaller than a house unit, length 4, the value comes back
  pub height_value_back : (v : ℤ) (c : Code) → 2000 < per_two_metres n → to_code t n v ≡ given c → Gives (to_house t n c.code) (λ h. h.value ≡ v)
  height_value_back v c fine p =
      let g = sent-given t n v c x p in
      rw (sent_converts v c p, g.made) (value_back n v g.fit (fine_half n fine))

  -- code to value to code
  pub shown_is_sent : (code : ℕ) (h : House) → to_house t n code ≡ given h → to_code t n h.value ≡ given (sent_given n h.value)
  shown_is_sent code h p =
      let g = height-given t n code h x p in
      rw g.made (height_is_sent t n x (extended_house n code) g.allowed (height_inside n code g.fit))

  -- where a step exceeds a house unit, lengths 2 and 3, the code comes back, or one lower exactly where its value was rounded down
  pub height_code_back : (code : ℕ) (h : House) → per_two_metres n < 2000 → to_house t n code ≡ given h
      → Gives (to_code t n h.value) (λ c. CodeBack n code h.value c.code)
  height_code_back code h coarse p =
      let g = height-given t n code h x p in
      rw (shown_is_sent code h p, g.made) (code_back n code (omega arith))

  -- where it is whole house units, length 2, the code always comes back
  pub height_code_kept : (code : ℕ) (h : House) → per_two_metres n ≡ 1 → to_house t n code ≡ given h → Gives (to_code t n h.value) (λ c. c.code ≡ code)
  height_code_kept code h one p =
      let g = height-given t n code h x p in
      rw (shown_is_sent code h p, g.made) (whole_back n code one)

-- two bytes: 2 m a code
pub two_bytes_kept : (t code : ℕ) (h : House) → is_extended t ≡ true → to_house t 2 code ≡ given h → Gives (to_code t 2 h.value) (λ c. c.code ≡ code)
two_bytes_kept t code h x p = height_code_kept t 2 x code h refl p

-- ties, which go upward below zero too: 8 of three bytes and 2048 of four stand for -899,937.5 mm
pub three_byte_tie : (to_house 104 3 8 ≡ given (record { value = neg_ℤ (pos 899937) })) × (2 * extended_miss 3 8 (neg_ℤ (pos 899937)) ≡ per_two_metres 3)
unfolding is_extended groups member item_in item_of shape_of length_allowed in_reach low_end nearest extended_house extended_miss to_house
three_byte_tie = (refl, refl)

pub four_byte_tie : (to_house 104 4 2048 ≡ given (record { value = neg_ℤ (pos 899937) })) × (2 * extended_miss 4 2048 (neg_ℤ (pos 899937)) ≡ per_two_metres 4)
unfolding is_extended groups member item_in item_of shape_of length_allowed in_reach low_end nearest extended_house extended_miss to_house
four_byte_tie = (refl, refl)

-- "2F921E is 23,456,234 mm", rounded down: sent, that is 2F921D, so a trip need not bring the code back
pub three_byte_lower : (to_house 104 3 0x2F921E ≡ given (record { value = pos 23456234 })) × (to_code 104 3 (pos 23456234) ≡ given (record { code = 0x2F921D }))
unfolding is_extended groups member item_in item_of shape_of length_allowed in_reach low_end high_end nearest extended_house extended_code to_house to_code
three_byte_lower = (refl, refl)
