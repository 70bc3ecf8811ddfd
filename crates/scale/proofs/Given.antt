-- When a conversion gives a value and when it refuses: every code that fits and is no mark converts, every value in the range converts,
-- and 19, 20 and 21 come exactly where document 01 says, or W-202 of extended heights. A mark is never the answer. The length is n, and of items
-- with a width any.
-- Assumes nothing.
use Prim.Native.Nat.{ℕ, ◌^◌, ◌<◌}
use mathlib.Core.Path.{◌≡◌, refl, ap, ◌∙◌}
use mathlib.Core.Bool.{Bool, true, false, not}
use lib.Dec.{ltb}
use lib.IntN.{ℤ}
use lib.Signed.{mag, lt_z}
use Rattle.base.proofs.Cases.{by_bool, never}
use Rattle.base.proofs.Every.{both_true}
use borrow.Author.Tests.{lt-ltb, not-true}
use Rattle.refusal.specs.Answer.{Answer, given, refused}
use Rattle.catalogue.specs.Items.{item_of}
use Rattle.catalogue.specs.Shapes.{length_allowed}
use Rattle.catalogue.specs.Extended.{is_extended, in_reach}
use Rattle.catalogue.specs.declared.Item.{Item}
use Rattle.scale.specs.Scales.{scaled, codes, is_number, beyond, is_outside}
use Rattle.scale.specs.Extended.{low_end, high_end, extended_house}
use Rattle.scale.specs.Conversions.{if_scaled, scaled_item, converted, by_length, house_of, house_given, height_given, to_house}
use Rattle.scale.specs.Conversions.{code_of, code_given, sent_given, to_code}
use Rattle.scale.specs.declared.House.{House}
use Rattle.scale.specs.declared.Code.{Code}
use Rattle.scale.specs.code.Rule.{Rule}
use Rattle.scale.proofs.Classes.{scaled_other, height_lengths}
use Rattle.scale.proofs.Rule.{rule}
use Rattle.scale.proofs.Whole.{inside_small}
use Rattle.scale.proofs.Items.{neither_left, neither_right}
use Rattle.scale.proofs.Numbers.{code_coded, house_inside}
use Rattle.scale.proofs.Extended.{reach_length, height_inside, ends_small}
use Rattle.std.specs.Prelude.{Option, Some, None}

-- a tag has a scale where its item has one
pub record Scaled (t : ℕ) (i : Item) : Type 0 where
  pub known : item_of t ≡ Some i
  pub has_scale : scaled i ≡ true

pub scaled_rule : {t : ℕ} {i : Item} → Scaled t i → Rule i
scaled_rule {t} {i} s = rule t i s.known s.has_scale

-- and is then no extended height
pub scaled_plain : {t : ℕ} {i : Item} → Scaled t i → is_extended t ≡ false
scaled_plain {t} {i} s = scaled_other t i s.known s.has_scale

module _ {t : ℕ} {i : Item} (s : Scaled t i) (n : ℕ) where
  pub every_code_converts : (code : ℕ) → is_number i code ≡ true → to_house t n code ≡ given (house_given i code)
  unfolding to_house
  every_code_converts code e = rw (scaled_plain s, s.known, s.has_scale, e)

  pub no_number_20 : (code : ℕ) → is_number i code ≡ false → to_house t n code ≡ refused 20 0 t
  unfolding to_house
  no_number_20 code e = rw (scaled_plain s, s.known, s.has_scale, e)

  pub every_value_converts : (v : ℤ) → is_outside i v ≡ false → to_code t n v ≡ given (code_given i v)
  unfolding to_code
  every_value_converts v e = rw (scaled_plain s, s.known, s.has_scale, e)

  pub outside_21 : (v : ℤ) → is_outside i v ≡ true → to_code t n v ≡ refused 21 0 t
  unfolding to_code
  outside_21 v e = rw (scaled_plain s, s.known, s.has_scale, e)

-- the code of a value fits and is no mark, so it converts back
pub code_is_number : {t : ℕ} {i : Item} → Scaled t i → (v : ℤ) → is_outside i v ≡ false → is_number i (code_of i v) ≡ true
code_is_number {t} {i} s v e =
    let c = code_coded i (scaled_rule s) v e in
    both_true (ltb (code_of i v) (codes i)) _ (lt-ltb _ _ c.fits) (ap not c.no_mark)

-- the lookup finds the items that have a scale, and no others
pub scaled_known : (t : ℕ) (i : Item) → scaled_item t ≡ Some i → Scaled t i
scaled_known t i = go (item_of t) refl
  where
    go : (f : Option Item) → item_of t ≡ f → if_scaled f ≡ Some i → Scaled t i
    go (Some j) k e =
        by_bool (scaled j)
        (λ s. let f : Some j ≡ Some i = rw s at e in let same : j ≡ i = cc in record { known = rw (← same) k; has_scale = rw (← same) s })
        (λ s. let f : None ≡ Some i = rw s at e in never (cc))
    go None k e = never (cc)

module _ (t : ℕ) (plain : is_extended t ≡ false) (none : (i : Item) → Scaled t i → ⊥) where
  unscaled : (f : Option Item) → scaled_item t ≡ f → f ≡ None
  unscaled (Some i) e = absurd (none i (scaled_known t i e))
  unscaled None e = refl

  pub house_19 : (n code : ℕ) → to_house t n code ≡ refused 19 0 t
  unfolding to_house
  house_19 n code = rw plain (ap (converted 20 t (λ i. is_number i code) (λ i. house_given i code)) (unscaled (scaled_item t) refl))

  pub code_19 : (n : ℕ) (v : ℤ) → to_code t n v ≡ refused 19 0 t
  unfolding to_code
  code_19 n v = rw plain (ap (converted 21 t (λ i. not (is_outside i v)) (λ i. code_given i v)) (unscaled (scaled_item t) refl))

-- and nothing else: what is given tells that the item has a scale, that the test passed, and all that is in the record
pub record Gave {A : Type 0} (t : ℕ) (i : Item) (passed : Type 0) (whole a : A) : Type 0 where
  pub scale : Scaled t i
  pub fit : passed
  pub made : a ≡ whole

gave : {A : Type 0} (n t : ℕ) (test : Item → Bool) (give : Item → A) (i : Item) (a : A) → item_of t ≡ Some i
    → converted n t test give (scaled_item t) ≡ given a → Gave t i (test i ≡ true) (give i) a
gave n t test give i a e p =
    by_bool (scaled i)
    (λ s. by_bool (test i)
    (λ f. let g : given (give i) ≡ given a = rw (e, s, f) at p in record { scale = record { known = e; has_scale = s }; fit = f; made = cc })
    (λ f. not_given (rw (e, s, f) at p)))
    (λ s. not_given (rw (e, s) at p))
  where
    not_given : {n p q : ℕ} {C : Type 0} → refused n p q ≡ given a → C
    not_given p = never (cc)

pub house-given : (t n code : ℕ) (i : Item) (h : House) → item_of t ≡ Some i → is_extended t ≡ false → to_house t n code ≡ given h
    → Gave t i (is_number i code ≡ true) (house_given i code) h
unfolding to_house
house-given t n code i h e x p = gave 20 t (λ i. is_number i code) (λ i. house_given i code) i h e (rw x at p)

pub code-given : (t n : ℕ) (v : ℤ) (i : Item) (c : Code) → item_of t ≡ Some i → is_extended t ≡ false → to_code t n v ≡ given c
    → Gave t i (is_outside i v ≡ false) (code_given i v) c
unfolding to_code
code-given t n v i c e x p =
    let g = gave 21 t (λ i. not (is_outside i v)) (λ i. code_given i v) i c e (rw x at p) in
    record { scale = g.scale; fit = not-true _ g.fit; made = g.made }

-- what a conversion to a code answers is never a mark, and fits
pub answer_is_number : (t n : ℕ) (v : ℤ) (i : Item) (c : Code) → item_of t ≡ Some i → is_extended t ≡ false → to_code t n v ≡ given c
    → is_number i c.code ≡ true
answer_is_number t n v i c e x p =
    let g = code-given t n v i c e x p in
    rw g.made (code_is_number g.scale v g.fit)

-- W-202: an extended height of an allowed length converts where its code is in reach, and a value where it is between the ends
module _ (t n : ℕ) (x : is_extended t ≡ true) where
  pub height_converts : (code : ℕ) → in_reach n code ≡ true → to_house t n code ≡ given (height_given n code)
  unfolding to_house
  height_converts code e = rw (x, height_lengths t n x ∙ reach_length n code e, e)

  pub height_20 : (code : ℕ) → length_allowed t n ≡ true → in_reach n code ≡ false → to_house t n code ≡ refused 20 0 t
  unfolding to_house
  height_20 code l e = rw (x, l, e)

  pub height_19 : (code : ℕ) → length_allowed t n ≡ false → to_house t n code ≡ refused 19 0 t
  unfolding to_house
  height_19 code l = rw (x, l)

  pub height_is_sent : (v : ℤ) → length_allowed t n ≡ true → beyond low_end high_end v ≡ false → to_code t n v ≡ given (sent_given n v)
  unfolding to_code
  height_is_sent v l e = rw (x, l, e)

  pub sent_21 : (v : ℤ) → length_allowed t n ≡ true → beyond low_end high_end v ≡ true → to_code t n v ≡ refused 21 0 t
  unfolding to_code
  sent_21 v l e = rw (x, l, e)

  pub sent_19 : (v : ℤ) → length_allowed t n ≡ false → to_code t n v ≡ refused 19 0 t
  unfolding to_code
  sent_19 v l = rw (x, l)

-- and nothing else
pub record GaveHeight {A : Type 0} (t n : ℕ) (passed : Type 0) (whole a : A) : Type 0 where
  pub allowed : length_allowed t n ≡ true
  pub fit : passed
  pub made : a ≡ whole

gave_height : {A : Type 0} (k t n : ℕ) (test : Bool) (whole a : A) → by_length k t n test whole ≡ given a → GaveHeight t n (test ≡ true) whole a
gave_height k t n test whole a p =
    by_bool (length_allowed t n)
    (λ l. by_bool test
    (λ f. let g : given whole ≡ given a = rw (l, f) at p in record { allowed = l; fit = f; made = cc })
    (λ f. not_given k (rw (l, f) at p)))
    (λ l. not_given 19 (rw l at p))
  where
    not_given : (k : ℕ) → refused k 0 t ≡ given a → GaveHeight t n (test ≡ true) whole a
    not_given k p = never (cc)

pub height-given : (t n code : ℕ) (h : House) → is_extended t ≡ true → to_house t n code ≡ given h
    → GaveHeight t n (in_reach n code ≡ true) (height_given n code) h
unfolding to_house
height-given t n code h x p = gave_height 20 t n (in_reach n code) (height_given n code) h (rw x at p)

pub sent-given : (t n : ℕ) (v : ℤ) (c : Code) → is_extended t ≡ true → to_code t n v ≡ given c
    → GaveHeight t n (beyond low_end high_end v ≡ false) (sent_given n v) c
unfolding to_code
sent-given t n v c x p =
    let g = gave_height 21 t n (not (beyond low_end high_end v)) (sent_given n v) c (rw x at p) in
    record { allowed = g.allowed; fit = not-true _ g.fit; made = g.made }

-- a value in house units leaves room for a sum
pub house_small : (t n code : ℕ) (h : House) → to_house t n code ≡ given h → mag h.value < 2 ^ 62
unfolding to_house
house_small t n code h p =
    by_bool (is_extended t)
    (λ x. let g = height-given t n code h x p in rw g.made (ends_small (extended_house n code) (height_inside n code g.fit)))
    (λ x. go x (item_of t) refl)
  where
    go : is_extended t ≡ false → (f : Option Item) → item_of t ≡ f → mag h.value < 2 ^ 62
    go x (Some i) e =
        let g = house-given t n code i h e x p in
        let r = scaled_rule g.scale in
        let o = house_inside i r code g.fit in
        rw g.made
        (inside_small i.low i.high (house_of i code) r.low_small r.high_small
        (neither_left (lt_z (house_of i code) i.low) _ o) (neither_right (lt_z (house_of i code) i.low) _ o))
    go x None e = let f : refused 19 0 t ≡ given h = rw (x, e) at p in never (cc)

-- an answer that gives what is so
abbrev pub Gives : {A : Type 0} → Answer A → (A → Type 0) → Type 0
Gives (given a) so = so a
Gives (refused n p t) so = ⊥
