-- The column of shapes: what it says of each tag is what the catalogue says.
-- Assumes nothing.
use Prim.Native.Nat.{ℕ, ◌+◌, ◌/◌, ◌%◌, ◌<◌, ◌≤◌}
use native.Mathlib.Omega.{arith}
use mathlib.Core.Path.{◌≡◌, refl, ap, sym, ◌∙◌, subst}
use mathlib.Core.Bool.{Bool, true, false, not, ◌&&◌, ◌||◌, or-true, beq}
use mathlib.Core.List.{List}
use lib.Bits.{bit_and, and_mask}
use lib.Dec.{ltb, leb, eqb}
use lib.ListN.{get_or}
use borrow.Author.Tests.{eqb-true, leb-true, eq-eqb, ne_eqb, not-true, le-leb, lt-leb}
use Rattle.base.proofs.Cases.{by_bool, by_lt, by_eq, clash, never, unless}
use Rattle.base.specs.Every.{all_below}
use Rattle.base.proofs.Every.{all-below, both_left, both_right, both_true}
use Rattle.catalogue.specs.Items.{groups, member, item_in, item_of}
use Rattle.catalogue.specs.Extended.{is_extended, in_reach}
use Rattle.catalogue.specs.Shapes.{shape_by, shape_of, shape_allows, is_listed, is_needed, size_allowed, codes_limited, code_allowed}
use Rattle.catalogue.specs.code.Column.{column_from, shape_column, mask_column, shape_mask, shape_byte, length_mask, within, mask_byte, shape_from, shape_in}
use Rattle.catalogue.specs.declared.MaskColumn.{MaskColumn}
use Rattle.catalogue.specs.declared.Shape.{Shape}
use Rattle.catalogue.specs.declared.Shape.TheVariants.{Text, Number, Absent}
use Rattle.catalogue.specs.declared.ShapeColumn.{ShapeColumn}
use Rattle.catalogue.proofs.Laws.{item_beyond}
use Rattle.std.specs.Coded.{Coded-set, coded_list, coded_ℕ}

pub shape_beyond : (t : ℕ) → 128 ≤ t → shape_of t ≡ Absent
unfolding shape_of
shape_beyond t h = ap shape_by (item_beyond t h)

-- every number has 1, 2, 4 or 8 bytes, or from 2 to 4 and no mark
width1248 : ℕ → Bool
width1248 w = eqb w 1 || (eqb w 2 || (eqb w 4 || eqb w 8))

wide : Shape → Bool
wide Text = true
wide (Number l m k) = (eqb l m && width1248 l) || (eqb l 2 && (eqb m 4 && not k))
wide Absent = true

-- and from 2 to 4 only at an extended height
is_fixed : Shape → Bool
is_fixed Text = true
is_fixed (Number l m k) = eqb l m
is_fixed Absent = true

-- the columns' bytes of each tag are those of the catalogue's shape
in_column : ℕ → Bool
in_column t =
    (eqb (get_or shape_column t 0) (shape_byte (shape_of t)) && eqb (get_or mask_column t 0) (mask_byte t))
    && (wide (shape_of t) && (is_extended t || is_fixed (shape_of t)))

all_in_column : all_below in_column 128 ≡ true
unfolding groups member item_in item_of shape_of is_extended column_from shape_column mask_column in_column wide width1248 is_fixed
all_in_column = refl

bytes_in_columns : (t : ℕ) → t < 128 → eqb (get_or shape_column t 0) (shape_byte (shape_of t)) && eqb (get_or mask_column t 0) (mask_byte t) ≡ true
unfolding in_column
bytes_in_columns t h = both_left _ _ (all-below in_column 128 all_in_column t h)

pub byte_in_column : (t : ℕ) → t < 128 → get_or shape_column t 0 ≡ shape_byte (shape_of t)
byte_in_column t h = eqb-true _ _ (both_left (eqb (get_or shape_column t 0) (shape_byte (shape_of t))) _ (bytes_in_columns t h))

pub mask_in_column : (t : ℕ) → t < 128 → get_or mask_column t 0 ≡ mask_byte t
mask_in_column t h = eqb-true _ _ (both_right (eqb (get_or shape_column t 0) (shape_byte (shape_of t))) _ (bytes_in_columns t h))

right_in_column : (t : ℕ) → t < 128 → wide (shape_of t) && (is_extended t || is_fixed (shape_of t)) ≡ true
unfolding in_column
right_in_column t h =
    both_right (eqb (get_or shape_column t 0) (shape_byte (shape_of t)) && eqb (get_or mask_column t 0) (mask_byte t)) _ (all-below in_column 128 all_in_column t h)

shape_wide : (t : ℕ) → t < 128 → wide (shape_of t) ≡ true
shape_wide t h = both_left (wide (shape_of t)) _ (right_in_column t h)

-- which of four tests passes
by_one {ℓ} : {C : Type ℓ} (a b c d : Bool) → a || (b || (c || d)) ≡ true → (a ≡ true → C) → (b ≡ true → C) → (c ≡ true → C) → (d ≡ true → C) → C
by_one true b c d e f g h i = f refl
by_one false true c d e f g h i = g refl
by_one false false true d e f g h i = h refl
by_one false false false d e f g h i = i e

by_width {ℓ} : {C : Type ℓ} (w : ℕ) → width1248 w ≡ true → (w ≡ 1 → C) → (w ≡ 2 → C) → (w ≡ 4 → C) → (w ≡ 8 → C) → C
unfolding width1248
by_width w e f g h i =
    by_one (eqb w 1) (eqb w 2) (eqb w 4) (eqb w 8) e
    (λ p. f (eqb-true w 1 p)) (λ p. g (eqb-true w 2 p)) (λ p. h (eqb-true w 4 p)) (λ p. i (eqb-true w 8 p))

-- one width, or the lengths of an extended height
record Lengths (l m : ℕ) (k : Bool) : Type 0 where
  low : l ≡ 2
  high : m ≡ 4
  bare : k ≡ false

by_wide {ℓ} : {C : Type ℓ} (l m : ℕ) (k : Bool) → wide (Number l m k) ≡ true → (l ≡ m → width1248 l ≡ true → C) → (Lengths l m k → C) → C
unfolding wide
by_wide l m k e f g =
    by_bool (eqb l m && width1248 l)
    (λ b. f (eqb-true l m (both_left (eqb l m) _ b)) (both_right (eqb l m) _ b))
    (λ b.
    let q = rw b at e in
    let r = both_right (eqb l 2) _ q in
    g (record { low = eqb-true l 2 (both_left (eqb l 2) _ q); high = eqb-true m 4 (both_left (eqb m 4) _ r); bare = not-true k (both_right (eqb m 4) _ r) }))

-- a number's lengths: from one to eight bytes, one length where it has a mark, and all within the mask
pub record Ranged (l m : ℕ) (k : Bool) : Type 0 where
  pub some : 1 ≤ l
  pub order : l ≤ m
  pub few : m ≤ 8
  pub one : k ≡ true → l ≡ m
  pub within : (n : ℕ) → l ≤ n → n ≤ m → bit_and n (shape_mask (Number l m k)) ≡ n
  pub mask : shape_mask (Number l m k) ≤ 8

fixed : (w : ℕ) (k : Bool) → w ≤ 8 → 1 ≤ w → bit_and w w ≡ w → Ranged w w k
fixed w k few some same =
    record {
      some = some;
      order = omega arith;
      few = few;
      one = λ _. refl;
      within = λ n h g. let e : n ≡ w = omega arith in rw (e, eq-eqb w w refl) same;
      mask = rw (eq-eqb w w refl) few;
    }

ranged : (l m : ℕ) (k : Bool) → wide (Number l m k) ≡ true → Ranged l m k
ranged l m k e =
    by_wide l m k e
    (λ q w. rw (sym q) (by_width l w
    (λ p. rw p (fixed 1 k (omega arith) (omega arith) refl))
    (λ p. rw p (fixed 2 k (omega arith) (omega arith) refl))
    (λ p. rw p (fixed 4 k (omega arith) (omega arith) refl))
    (λ p. rw p (fixed 8 k (omega arith) (omega arith) refl))))
    (λ r. rw (r.low, r.high, r.bare)
    (record {
      some = omega arith;
      order = omega arith;
      few = omega arith;
      one = λ z. clash (sym z);
      within = λ n h g. and_mask n 3 ∙ omega arith;
      mask = omega arith;
    }))

pub number_ranged : (t l m : ℕ) (k : Bool) → shape_of t ≡ Number l m k → Ranged l m k
number_ranged t l m k e =
    by_lt t 128
    (λ h. ranged l m k (ap wide (sym e) ∙ shape_wide t h))
    (λ h. let f : Shape.Absent ≡ Number l m k = sym (shape_beyond t h) ∙ e in never (cc))

-- only an extended height has more lengths than one
shape_fixed : (t : ℕ) → t < 128 → is_extended t ≡ false → is_fixed (shape_of t) ≡ true
shape_fixed t h x = rw x at (both_right (wide (shape_of t)) _ (right_in_column t h))

pub plain_fixed : (t l m : ℕ) (k : Bool) → t < 128 → is_extended t ≡ false → shape_of t ≡ Number l m k → l ≡ m
unfolding is_fixed
plain_fixed t l m k h x e = eqb-true l m (rw e at (shape_fixed t h x))

-- a shape of one length at most is what its byte says
number_said : (w : ℕ) (k : Bool) → w ≤ 8 → shape_from (shape_byte (Number w w k)) ≡ Number w w k
number_said w true few =
    let a : (144 + w) / 16 % 8 ≡ 1 = omega arith in
    let b : (144 + w) % 16 ≡ w = omega arith in
    rw (eq-eqb w w refl, a, b, le-leb 128 (144 + w) (omega arith))
number_said w false few =
    let a : (16 + w) / 16 % 8 ≡ 1 = omega arith in
    let b : (16 + w) % 16 ≡ w = omega arith in
    rw (eq-eqb w w refl, a, b, lt-leb 128 (16 + w) (omega arith))

byte_said : (s : Shape) → wide s ≡ true → is_fixed s ≡ true → shape_from (shape_byte s) ≡ s
unfolding is_fixed
byte_said Text w f = refl
byte_said (Number l m k) w f =
    let r = ranged l m k w in
    let e : l ≡ m = eqb-true l m f in
    rw (← e) (number_said l k (omega (arith, r.order, r.few)))
byte_said Absent w f = refl

-- a length of one byte lies within a mask where it is 0 or allowed: tested once over all lengths, for each width and for text
as_masked : ℕ → ℕ → Bool
as_masked w n = beq (within w n) (eqb n 0 || (leb w n && leb n w))

as_text : ℕ → Bool
as_text n = beq (within 127 n) (eqb n 0 || (ltb 0 n && ltb n 128))

same_beq : (a b : Bool) → beq a b ≡ true → a ≡ b
same_beq true true e = refl
same_beq true false e = clash (sym e)
same_beq false true e = clash (sym e)
same_beq false false e = refl

width_masked : (w n : ℕ) → all_below (as_masked w) 128 ≡ true → n < 128 → within w n ≡ (eqb n 0 || (leb w n && leb n w))
unfolding as_masked
width_masked w n e h = same_beq _ _ (all-below (as_masked w) 128 e n h)

mask_one : (w n : ℕ) → width1248 w ≡ true → n < 128 → within w n ≡ (eqb n 0 || (leb w n && leb n w))
unfolding as_masked
mask_one w n e h =
    by_width w e
    (λ q. rw q (width_masked 1 n refl h)) (λ q. rw q (width_masked 2 n refl h)) (λ q. rw q (width_masked 4 n refl h)) (λ q. rw q (width_masked 8 n refl h))

mask_text : (n : ℕ) → n < 128 → within 127 n ≡ (eqb n 0 || (ltb 0 n && ltb n 128))
unfolding as_text
mask_text n h = same_beq _ _ (all-below as_text 128 refl n h)

-- so at every tag of one length or text
pub mask_within : (t n : ℕ) (s : Shape) → t < 128 → is_extended t ≡ false → shape_of t ≡ s → (s ≡ Absent → ⊥) → n < 128
    → within (length_mask s) n ≡ (eqb n 0 || shape_allows s n)
mask_within t n Text h x e there few = mask_text n few
mask_within t n (Number l m k) h x e there few =
    let q : l ≡ m = plain_fixed t l m k h x e in
    rw (eq-eqb l m q, ← q) (mask_one l n (by_wide l m k (ap wide (sym e) ∙ shape_wide t h) (λ _ w. w) (λ r. absurd (omega (arith, r.low, r.high, q)))) few)
mask_within t n Absent h x e there few = absurd (there refl)

-- an item whose codes are not limited takes every code
pub neither : (a b : Bool) → a || b ≡ false → (a ≡ false) × (b ≡ false)
neither true b e = clash e
neither false b e = (refl, e)

-- and one whose codes are limited is a number, so of at most eight bytes
is_number : Shape → Bool
is_number Text = false
is_number (Number l m k) = true
is_number Absent = false

pub record Numbered (s : Shape) : Type 0 where
  pub least : ℕ
  pub most : ℕ
  pub marked : Bool
  pub same : s ≡ Number least most marked

numbered : (s : Shape) → is_number s ≡ true → Numbered s
unfolding is_number
numbered Text e = clash (sym e)
numbered (Number l m k) e = record { least = l; most = m; marked = k; same = refl }
numbered Absent e = clash (sym e)

all_limited : all_below (λ t. not (codes_limited t) || is_number (shape_of t)) 128 ≡ true
unfolding groups member item_in item_of shape_of is_extended codes_limited is_number
all_limited = refl

limited_below : (t : ℕ) → 128 ≤ t → codes_limited t ≡ true → t < 128
unfolding codes_limited is_extended
limited_below t h e =
    let other : (n : ℕ) → n < 128 → eqb t n ≡ false = λ n k. ne_eqb t n (λ z. omega arith) in
    clash (sym (rw (other 34 (omega arith), other 63 (omega arith), le-leb 103 t (omega arith), lt-leb t 105 (omega arith)) at e))

pub limited_number : (t : ℕ) → codes_limited t ≡ true → Numbered (shape_of t)
limited_number t l =
    by_lt t 128
    (λ h. numbered (shape_of t) (unless (codes_limited t) _ (all-below (λ u. not (codes_limited u) || is_number (shape_of u)) 128 all_limited t h) l))
    (λ h. absurd (omega (arith, limited_below t h l)))

-- an item of the catalogue
pub listed : (s : Shape) → (s ≡ Absent → ⊥) → is_listed s ≡ true
listed Text there = refl
listed (Number l m k) there = refl
listed Absent there = absurd (there refl)

-- a length is right that is 0 where the item is not needed, or one of the shape's
pub right_by : (t n : ℕ) (s : Shape) → (s ≡ Absent → ⊥) → (n ≡ 0 → is_needed t ≡ false) → ((n ≡ 0 → ⊥) → shape_allows s n ≡ true)
    → size_allowed t s n ≡ true
right_by t n s there free allowed =
    rw (listed s there) (by_eq n 0 (λ z. rw (eq-eqb n 0 z, free z)) (λ some. rw (ne_eqb n 0 some) (allowed some)))

-- and one that is right is 0, or one of the shape's
pub right_some : (t n : ℕ) (s : Shape) → size_allowed t s n ≡ true → (n ≡ 0 → ⊥) → shape_allows s n ≡ true
right_some t n Text a some = rw (ne_eqb n 0 some) at a
right_some t n (Number l m k) a some = rw (ne_eqb n 0 some) at a
right_some t n Absent a some = a

pub limited_few : (t n : ℕ) → codes_limited t ≡ true → size_allowed t (shape_of t) n ≡ true → n ≤ 8
limited_few t n l a =
    let q = limited_number t l in
    let r = number_ranged t q.least q.most q.marked q.same in
    by_eq n 0
    (λ z. omega arith)
    (λ some.
    let b : shape_allows (Number q.least q.most q.marked) n ≡ true = rw q.same at (right_some t n (shape_of t) a some) in
    omega (arith, leb-true n q.most (both_right (leb q.least n) _ b), r.few))

pub codes_free : (t n c : ℕ) → codes_limited t ≡ false → code_allowed t n c ≡ true
unfolding codes_limited code_allowed
codes_free t n c e =
    let f = neither (eqb t 34) _ e in
    let g = neither (eqb t 63) _ f.1 in
    rw (f.0, g.0, g.1) (or-true (eqb n 0))

-- what has no bytes has no code
pub no_code : (t c : ℕ) → code_allowed t 0 c ≡ true
unfolding code_allowed
no_code t c = refl

-- the extended heights
pub extended_in : (t : ℕ) → is_extended t ≡ true → (103 ≤ t) × (t ≤ 105)
unfolding is_extended
extended_in t x = (leb-true 103 t (both_left (leb 103 t) _ x), leb-true t 105 (both_right (leb 103 t) _ x))

-- what holds of the three tags holds of each one's
pub by_height {ℓ} : (P : ℕ → Type ℓ) (t : ℕ) → is_extended t ≡ true → P 103 → P 104 → P 105 → P t
by_height P t x a b c =
    let e = extended_in t x in
    by_eq t 103 (λ q. rw q a) (λ o. by_eq t 104 (λ q. rw q b) (λ p. let q : t ≡ 105 = omega (arith, e.0, e.1) in rw q c))

-- their lengths, and which codes they allow
module _ (t : ℕ) (x : is_extended t ≡ true) where
  pub extended_shape : shape_of t ≡ Number 2 4 false
  unfolding shape_of item_of item_in member groups
  extended_shape = by_height (λ u. shape_of u ≡ Number 2 4 false) t x refl refl refl

  pub extended-code : (n c : ℕ) → code_allowed t n c ≡ (eqb n 0 || in_reach n c)
  unfolding code_allowed
  extended-code n c = let e = extended_in t x in rw (ne_eqb t 34 (λ z. omega (arith, e.0)), ne_eqb t 63 (λ z. omega (arith, e.0)), x)

  -- a code within reach has an allowed length
  pub reach_allowed : (n c : ℕ) → in_reach n c ≡ true → shape_allows (shape_of t) n ≡ true
  unfolding in_reach
  reach_allowed n c r = rw extended_shape (both_true _ _ (both_left (leb 2 n) _ r) (both_left (leb n 4) _ (both_right (leb 2 n) _ r)))

pub shape_in_column : (t : ℕ) → shape_in shape_column t ≡ shape_of t
unfolding shape_in
shape_in_column t =
    by_bool (is_extended t)
    (λ x. rw x (sym (extended_shape t x)))
    (λ x. by_lt t 128
    (λ h. rw (x, lt-leb 128 t h, byte_in_column t h) (byte_said (shape_of t) (shape_wide t h) (shape_fixed t h x)))
    (λ h. rw (x, le-leb 128 t h) (sym (shape_beyond t h))))

-- what keeps bytes, and that they are the catalogue's, is told by its bytes alone
by_bytes : {A : Type 0} (all : List ℕ) (keeps : (x : List ℕ) → x ≡ all → A) (x y : List ℕ) (p : x ≡ all) (q : y ≡ all) → x ≡ y → keeps x p ≡ keeps y q
by_bytes all keeps x y p q e =
    subst (λ z. (r : z ≡ all) → keeps x p ≡ keeps z r) e (λ r. ap (keeps x) (Coded-set (coded_list coded_ℕ) x all p r)) q

pub shapes_apart : (a b : ShapeColumn) → a.column ≡ b.column → a ≡ b
shapes_apart a b e =
    by_bytes shape_column (λ x p. record { column = x; of_the_catalogue = p }) a.column b.column a.of_the_catalogue b.of_the_catalogue e

pub masks_apart : (a b : MaskColumn) → a.column ≡ b.column → a ≡ b
masks_apart a b e =
    by_bytes mask_column (λ x p. record { column = x; of_the_catalogue = p }) a.column b.column a.of_the_catalogue b.of_the_catalogue e
