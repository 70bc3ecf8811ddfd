-- Tags and lengths read back: what was written, the one form of a tag, and the shortest form of a length.
-- Assumes nothing.
use Prim.Native.Nat.{ℕ, zero, suc, ◌+◌, ◌-◌, ◌*◌, ◌/◌, ◌%◌, ◌^◌, ◌<◌, ◌≤◌}
use native.Mathlib.Omega.{arith}
use native.Mathlib.Numerals.{add-one}
use native.Mathlib.Nat.{mod-eq_of_lt}
use mathlib.Core.Path.{◌≡◌, refl, ap, ap₂, sym, ◌∙◌, subst, subst₂}
use mathlib.Core.List.{List, [], ◌∷◌, ◌++◌, append-nil}
use lib.ListN.{length, take, drop, get_or, length-take, length-append}
use lib.Seq.{take_at}
use lib.Dec.{ltb, leb}
use borrow.Author.Tests.{ltb-true, ltb-false, leb-false, lt-ltb, le-ltb, lt-leb}
use Rattle.base.proofs.Cases.{by_bool, by_lt}
use Rattle.number.specs.Stored.{Bytes, value_of, bytes_of}
use Rattle.number.proofs.Laws.{bytes_none, bytes_cons, bytes_tail, bytes_take, bytes_bytes_of, bytes_back, length_bytes_of, spelled, value_small, value_ends}
use Rattle.ber.specs.Read.{Read, got, broken, tag_third, tag_second, read_tag, read_length}
use Rattle.ber.specs.Seen.{seen}
use Rattle.ber.specs.declared.Field.{Field}
use Rattle.std.specs.Prelude.{Option, Some, None}
use Rattle.ber.specs.Written.{tag_bytes, long, length_bytes}
use Rattle.ber.specs.Forms.{LengthForm, short_form, long_form}
use Rattle.ber.proofs.Forms.{tag_one, tag_two, tag_three, length_one, length_two, length_three, length_four, length_five}
use Rattle.ber.proofs.Sizes.{value_four}

-- a tag by the number of its bytes
module _ (l : List ℕ) where
  pub read_one : (a : ℕ) → 0 < a → a < 128 → read_tag (a ∷ l) ≡ got a 1
  unfolding read_tag
  read_one a h k = rw (lt-ltb a 128 k, lt-ltb 0 a h)

  pub read_two : (a b : ℕ) → 128 < a → b < 128 → read_tag (a ∷ b ∷ l) ≡ got ((a - 128) * 128 + b) 2
  unfolding read_tag tag_second
  read_two a b h k = rw (le-ltb a 128 (omega arith), lt-leb a 128 h, lt-ltb b 128 k)

  pub read_three : (a b c : ℕ) → 128 < a → 128 ≤ b → c < 128 → read_tag (a ∷ b ∷ c ∷ l) ≡ got (((a - 128) * 128 + (b - 128)) * 128 + c) 3
  unfolding read_tag tag_second tag_third
  read_three a b c h k m = rw (le-ltb a 128 (omega arith), lt-leb a 128 h, le-ltb b 128 k, lt-ltb c 128 m)

-- written, then read
pub tag_written : (t : ℕ) (l : List ℕ) → 0 < t → t < 2097152 → read_tag (tag_bytes t ++ l) ≡ got t (length (tag_bytes t))
tag_written t l some small =
    by_lt t 128
    (λ h. rw (tag_one t some h) (read_one l t some h))
    (λ h. by_lt t 16384
    (λ k. rw (tag_two t h k) (read_two l (128 + t / 128) (t % 128) (omega arith) (omega arith) ∙ ap (λ x. got x 2) (omega arith)))
    (λ k. rw (tag_three t k small)
    (read_three l (128 + t / 16384) (128 + t / 128 % 128) (t % 128) (omega arith) (omega arith) (omega arith) ∙ ap (λ x. got x 3) (omega arith))))

-- the forms of what may stand where a tag is read
data TagView : List ℕ → Read → Type 0 where
  no_tag : {l : List ℕ} → TagView l broken
  one_byte : {a : ℕ} {l : List ℕ} → 0 < a → a < 128 → TagView (a ∷ l) (got a 1)
  two_bytes : {a b : ℕ} {l : List ℕ} → 128 < a → b < 128 → TagView (a ∷ b ∷ l) (got ((a - 128) * 128 + b) 2)
  three_bytes : {a b c : ℕ} {l : List ℕ} → 128 < a → 128 ≤ b → c < 128 → TagView (a ∷ b ∷ c ∷ l) (got (((a - 128) * 128 + (b - 128)) * 128 + c) 3)

third_view : (a b : ℕ) (l : List ℕ) → 128 < a → 128 ≤ b → TagView (a ∷ b ∷ l) (tag_third ((a - 128) * 128 + (b - 128)) l)
unfolding tag_third
third_view a b [] h k = no_tag
third_view a b (c ∷ l) h k = by_bool (ltb c 128) (λ e. rw e (three_bytes h k (ltb-true _ _ e))) (λ e. rw e no_tag)

second_view : (a : ℕ) (l : List ℕ) → 128 < a → TagView (a ∷ l) (tag_second (a - 128) l)
unfolding tag_second
second_view a [] h = no_tag
second_view a (b ∷ l) h =
    by_bool (ltb b 128) (λ e. rw e (two_bytes h (ltb-true _ _ e))) (λ e. rw e (third_view a b l h (ltb-false _ _ e)))

tag_view : (l : List ℕ) → TagView l (read_tag l)
unfolding read_tag
tag_view [] = no_tag
tag_view (a ∷ l) =
    by_bool (ltb a 128)
    (λ e. rw e (by_bool (ltb 0 a) (λ f. rw f (one_byte (ltb-true _ _ f) (ltb-true _ _ e))) (λ f. rw f no_tag)))
    (λ e. rw e (by_bool (leb a 128) (λ f. rw f no_tag) (λ f. rw f (second_view a l (leb-false _ _ f)))))

-- a tag that was read has one form: the bytes that it is written as
pub record TagRead (l : List ℕ) (t s : ℕ) : Type 0 where
  pub some : 0 < t
  pub small : t < 2097152
  pub size : s ≡ length (tag_bytes t)
  pub takes : 0 < s
  pub inside : s ≤ length l
  pub same : l ≡ tag_bytes t ++ drop s l

pub tag_read : (l : List ℕ) (t s : ℕ) → Bytes l → read_tag l ≡ got t s → TagRead l t s
tag_read l t s by h = go l (read_tag l) (tag_view l) by h
  where
    go : (l : List ℕ) (x : Read) → TagView l x → Bytes l → x ≡ got t s → TagRead l t s
    go l x no_tag by h = let z : ◌≡◌ {A = ℕ} 0 1 = cc in absurd (omega arith)
    go l x (one_byte {a} p q) by h =
        let et : a ≡ t = cc in
        let es : 1 ≡ s = cc in
        let e = tag_one a p q in
        rw (← et, ← es) (record { some = p; small = omega arith; size = rw e; takes = omega arith; inside = omega arith; same = rw e })
    go l x (two_bytes {a} {b} p q) by h =
        let et : (a - 128) * 128 + b ≡ t = cc in
        let es : 2 ≡ s = cc in
        let k : a < 256 = by.byte 0 in
        let u : 128 + ((a - 128) * 128 + b) / 128 ≡ a = omega arith in
        let v : ((a - 128) * 128 + b) % 128 ≡ b = omega arith in
        let e = tag_two ((a - 128) * 128 + b) (omega arith) (omega arith) ∙ ap₂ (λ y z. y ∷ z ∷ []) u v in
        rw (← et, ← es) (record { some = omega arith; small = omega arith; size = rw e; takes = omega arith; inside = omega arith; same = rw e })
    go l x (three_bytes {a} {b} {c} p q m) by h =
        let n : ℕ = ((a - 128) * 128 + (b - 128)) * 128 + c in
        let et : n ≡ t = cc in
        let es : 3 ≡ s = cc in
        let k : a < 256 = by.byte 0 in
        let j : b < 256 = by.byte 1 in
        let e1 : 128 + n / 16384 ≡ a = omega arith in
        let e2 : 128 + n / 128 % 128 ≡ b = omega arith in
        let e3 : n % 128 ≡ c = omega arith in
        let e : tag_bytes n ≡ a ∷ b ∷ c ∷ [] = rw (tag_three n (omega arith) (omega arith)) (rw (e1, e2, e3)) in
        rw (← et, ← es) (record { some = omega arith; small = omega arith; size = rw e; takes = omega arith; inside = omega arith; same = rw e })

-- a long length of n bytes, whatever n
pub read_long : (n x : ℕ) (l : List ℕ) → 0 < n → n < 5 → x < 256 ^ n → read_length (long n x ++ l) ≡ got x (n + 1)
unfolding read_length
read_long n x l some few small =
    let e : 128 + n - 128 ≡ n = omega arith in
    let k : n ≤ length (bytes_of n x ++ l) = rw (length-append, length_bytes_of) (omega arith) in
    rw (
      le-ltb (128 + n) 128 (omega arith),
      lt-leb (128 + n) 128 (omega arith),
      le-ltb 132 (128 + n) (omega arith),
      e,
      le-ltb _ _ k,
      take_at (bytes_of n x) l n (length_bytes_of n x),
      bytes_back n x small,
    )

pub read_short : (x : ℕ) (l : List ℕ) → x < 128 → read_length (x ∷ l) ≡ got x 1
unfolding read_length
read_short x l h = rw (lt-ltb x 128 h)

pub length_written : (x : ℕ) (l : List ℕ) → x < 2 ^ 32 → read_length (length_bytes x ++ l) ≡ got x (length (length_bytes x))
unfolding bytes_of
length_written x l small =
    by_lt x 128 (λ h. rw (length_one x h) (read_short x l h))
    (λ h. by_lt x 256 (λ k. rw (length_two x h k) (read_long 1 x l (omega arith) (omega arith) k))
    (λ h. by_lt x 65536 (λ k. rw (length_three x h k) (read_long 2 x l (omega arith) (omega arith) k))
    (λ h. by_lt x 16777216 (λ k. rw (length_four x h k) (read_long 3 x l (omega arith) (omega arith) k))
    (λ h. rw (length_five x h small) (read_long 4 x l (omega arith) (omega arith) small)))))

-- how many bytes the shortest form takes
pub record Sized (x s : ℕ) : Type 0 where
  pub one : x < 128 → s ≡ 1
  pub two : x < 256 → s ≤ 2
  pub three : x < 65536 → s ≤ 3
  pub four : x < 16777216 → s ≤ 4
  pub most : s ≤ 5
  pub some : 0 < s

pub sized : (x : ℕ) → x < 2 ^ 32 → Sized x (length (length_bytes x))
unfolding bytes_of
sized x small =
    by_lt x 128 (λ h. rw (length_one x h) (omega arith))
    (λ h. by_lt x 256 (λ k. rw (length_two x h k) (omega arith))
    (λ h. by_lt x 65536 (λ k. rw (length_three x h k) (omega arith))
    (λ h. by_lt x 16777216 (λ k. rw (length_four x h k) (omega arith))
    (λ h. rw (length_five x h small) (omega arith)))))

-- no form of n bytes after the first is shorter
shortest : (n x : ℕ) → x < 2 ^ 32 → 0 < n → x < 256 ^ n → length (length_bytes x) ≤ n + 1
shortest zero x small some fits = absurd (omega arith)
shortest (suc zero) x small some fits = (sized x small).two fits
shortest (suc (suc zero)) x small some fits = (sized x small).three fits
shortest (suc (suc (suc zero))) x small some fits = (sized x small).four fits
shortest (suc (suc (suc (suc n)))) x small some fits = omega (arith, (sized x small).most)

-- the forms of what may stand where a length is read
data LengthView : List ℕ → Read → Type 0 where
  no_length : {l : List ℕ} → LengthView l broken
  short : {a : ℕ} {l : List ℕ} → a < 128 → LengthView (a ∷ l) (got a 1)
  longer : {a : ℕ} {l : List ℕ} → 128 < a → a ≤ 132 → a - 128 ≤ length l → LengthView (a ∷ l) (got (value_of (take (a - 128) l)) (a - 128 + 1))

length_view : (l : List ℕ) → LengthView l (read_length l)
unfolding read_length
length_view [] = no_length
length_view (a ∷ l) =
    by_bool (ltb a 128) (λ e. rw e (short (ltb-true _ _ e)))
    (λ e. rw e (by_bool (leb a 128) (λ f. rw f no_length)
    (λ f. rw f (by_bool (ltb 132 a) (λ g. rw g no_length)
    (λ g. rw g (by_bool (ltb (length l) (a - 128)) (λ k. rw k no_length)
    (λ k. rw k (longer (leb-false _ _ f) (ltb-false _ _ g) (ltb-false _ _ k)))))))))

-- a length that was read: below 2 ^ 32, in one of its forms, none of which is shorter than the one that is written
pub record LengthRead (l : List ℕ) (x s : ℕ) : Type 0 where
  pub small : x < 2 ^ 32
  pub some : 0 < s
  pub inside : s ≤ length l
  pub shortest : length (length_bytes x) ≤ s
  pub form : LengthForm x (take s l)

long_read : (a : ℕ) (l : List ℕ) → Bytes l → 128 < a → a ≤ 132 → a - 128 ≤ length l → LengthRead (a ∷ l) (value_of (take (a - 128) l)) (a - 128 + 1)
long_read a l by p q m =
    let n : ℕ = a - 128 in
    let ds : List ℕ = take n l in
    let e : length ds ≡ n = rw length-take (omega arith) in
    let below : value_of ds < 2 ^ 32 = value_four l by n (omega arith) in
    let fits : value_of ds < 256 ^ n = rw e at (value_small ds (bytes_take n l by)) in
    let first : 128 + length ds ≡ a = omega arith in
    let whole : take (n + 1) (a ∷ l) ≡ a ∷ ds = rw add-one refl in
    record {
      small = below;
      some = omega arith;
      inside = omega arith;
      shortest = shortest n (value_of ds) below (omega arith) fits;
      form = rw whole (subst (λ x. LengthForm (value_of ds) (x ∷ ds)) first (long_form ds (omega arith) (omega arith)));
    }

pub length_read : (l : List ℕ) (x s : ℕ) → Bytes l → read_length l ≡ got x s → LengthRead l x s
length_read l x s by h = go l (read_length l) (length_view l) by h
  where
    go : (l : List ℕ) (r : Read) → LengthView l r → Bytes l → r ≡ got x s → LengthRead l x s
    go l r no_length by h = let z : ◌≡◌ {A = ℕ} 0 1 = cc in absurd (omega arith)
    go l r (short {a} p) by h =
        let ex : a ≡ x = cc in
        let es : 1 ≡ s = cc in
        rw (← ex, ← es)
        (record { small = omega arith; some = omega arith; inside = omega arith; shortest = rw (length_one a p) (omega arith); form = short_form p })
    go l r (longer {a} {l = m} p q k) by h =
        let ex : value_of (take (a - 128) m) ≡ x = cc in
        let es : a - 128 + 1 ≡ s = cc in
        rw (← ex, ← es) (long_read a m (bytes_tail by) p q k)

-- each form of a length reads as that length
pub form_read : {x : ℕ} {f : List ℕ} → LengthForm x f → (l : List ℕ) → read_length (f ++ l) ≡ got x (length f)
unfolding read_length
form_read (short_form {x} h) l = rw (lt-ltb x 128 h)
form_read (long_form ds some few) l =
    let a : ℕ = 128 + length ds in
    let e : a - 128 ≡ length ds = omega arith in
    let k : length ds ≤ length (ds ++ l) = rw length-append (omega arith) in
    rw (le-ltb a 128 (omega arith), lt-leb a 128 (omega arith), le-ltb 132 a (omega arith), e, le-ltb _ _ k, take_at ds l _ refl, add-one)

-- the length that is written: below 128 in one byte, or in n bytes after the first
data LengthWritten : ℕ → List ℕ → Type 0 where
  in_one : {x : ℕ} → x < 128 → LengthWritten x (x ∷ [])
  in_more : (n : ℕ) {x : ℕ} → 0 < n → n < 5 → x < 256 ^ n → LengthWritten x (long n x)

written_view : (x : ℕ) → x < 2 ^ 32 → LengthWritten x (length_bytes x)
written_view x small =
    by_lt x 128 (λ h. rw (length_one x h) (in_one h))
    (λ h. by_lt x 256 (λ k. rw (length_two x h k) (in_more 1 (omega arith) (omega arith) k))
    (λ h. by_lt x 65536 (λ k. rw (length_three x h k) (in_more 2 (omega arith) (omega arith) k))
    (λ h. by_lt x 16777216 (λ k. rw (length_four x h k) (in_more 3 (omega arith) (omega arith) k))
    (λ h. rw (length_five x h small) (in_more 4 (omega arith) (omega arith) small)))))

-- it is one of the length's forms
pub length_form : (x : ℕ) → x < 2 ^ 32 → LengthForm x (length_bytes x)
length_form x small = go (written_view x small)
  where
    go : {x : ℕ} {f : List ℕ} → LengthWritten x f → LengthForm x f
    go (in_one h) = short_form h
    go (in_more n {x} some few fits) =
        let e : length (bytes_of n x) ≡ n = length_bytes_of n x in
        subst₂ (λ y k. LengthForm y ((128 + k) ∷ bytes_of n x)) (bytes_back n x fits) e (long_form (bytes_of n x) (omega arith) (omega arith))

-- the shortest of them
pub form_shortest : {x : ℕ} {f : List ℕ} → LengthForm x f → Bytes f → length (length_bytes x) ≤ length f
form_shortest {x} {f} r by = (length_read (f ++ []) x (length f) (rw (append-nil f) by) (form_read r [])).shortest

-- and the only one of its size
pub form_one : {x : ℕ} {f : List ℕ} → LengthForm x f → Bytes f → x < 2 ^ 32 → length f ≡ length (length_bytes x) → f ≡ length_bytes x
form_one (short_form {x} h) by small e = sym (length_one x h)
form_one (long_form ds some few) by small e = go (written_view (value_of ds) small) refl e
  where
    go : {x : ℕ} {f : List ℕ} → LengthWritten x f → x ≡ value_of ds → suc (length ds) ≡ length f → (128 + length ds) ∷ ds ≡ f
    go (in_one h) v l = absurd (omega arith)
    go (in_more n {x} p q fits) v l =
        let k : length ds ≡ n = omega (arith, length_bytes_of n x) in
        rw (spelled ds n x (bytes_tail by) k (sym v), k)

-- a smaller length takes no more bytes
pub length_mono : (x y : ℕ) → x ≤ y → y < 2 ^ 32 → length (length_bytes x) ≤ length (length_bytes y)
length_mono x y h small = go (written_view y small) h
  where
    go : {y : ℕ} {f : List ℕ} → LengthWritten y f → x ≤ y → length (length_bytes x) ≤ length f
    go (in_one k) l = omega (arith, (sized x (omega arith)).one (omega arith))
    go (in_more n {x = y} some few fits) l = omega (arith, length_bytes_of n y, shortest n x (omega arith) some (omega arith))

-- what is written is bytes
pub length-bytes : (x : ℕ) → x < 2 ^ 32 → Bytes (length_bytes x)
length-bytes x small = go (written_view x small)
  where
    go : {x : ℕ} {f : List ℕ} → LengthWritten x f → Bytes f
    go (in_one h) = bytes_cons (omega arith) bytes_none
    go (in_more n {x} some few fits) = bytes_cons (omega arith) (bytes_bytes_of n x)

pub tag-bytes : (t : ℕ) → 0 < t → t < 2097152 → Bytes (tag_bytes t)
tag-bytes t some small =
    by_lt t 128 (λ h. rw (tag_one t some h) (bytes_cons (omega arith) bytes_none))
    (λ h. by_lt t 16384
    (λ k. rw (tag_two t h k) (bytes_cons (omega arith) (bytes_cons (omega arith) bytes_none)))
    (λ k. rw (tag_three t k small) (bytes_cons (omega arith) (bytes_cons (omega arith) (bytes_cons (omega arith) bytes_none)))))

-- every form has a byte
pub form_some : {x : ℕ} {f : List ℕ} → LengthForm x f → 0 < length f
form_some (short_form h) = omega arith
form_some (long_form ds some few) = omega arith

-- and ends with the length itself, where that is one of a byte
pub form_ends : {x : ℕ} {f : List ℕ} → LengthForm x f → Bytes f → x < 256 → get_or f (length f - 1) 0 ≡ x
form_ends (short_form h) by small = refl
form_ends (long_form [] some few) by small = absurd (omega arith)
form_ends (long_form (d ∷ ds) some few) by small =
    let e : suc (suc (length ds)) - 1 ≡ suc (length ds) = omega arith in
    ap (λ j. get_or ((128 + suc (length ds)) ∷ d ∷ ds) j 0) e ∙ (sym (value_ends 0 d ds (bytes_tail by)) ∙ mod-eq_of_lt small)

-- what an answer says tells any two answers apart
pub seen_apart : (a b : Option Field) → seen a ≡ seen b → a ≡ b
seen_apart (Some f) (Some g) e =
    let v : f.value ≡ g.value = cc in
    let s : f.size ≡ g.size = cc in
    ap₂ (λ x n. Some (record { value = x; size = n })) v s
seen_apart (Some f) None e = let z : ◌≡◌ {A = ℕ} 0 1 = cc in absurd (omega arith)
seen_apart None (Some g) e = let z : ◌≡◌ {A = ℕ} 0 1 = cc in absurd (omega arith)
seen_apart None None e = refl
