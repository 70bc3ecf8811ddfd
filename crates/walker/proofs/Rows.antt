-- What a receiver makes of an item, by the shape of its tag and its code.
-- Assumes nothing.
use Prim.Native.Nat.{ℕ, ◌+◌, ◌-◌, ◌%◌, ◌^◌, ◌≤◌}
use native.Mathlib.Omega.{arith}
use mathlib.Core.Path.{◌≡◌, refl, sym, ap, ◌∙◌}
use mathlib.Core.Bool.{Bool, true, false, ◌&&◌}
use mathlib.Core.List.{List, [], ◌∷◌}
use lib.ListN.{length, take, drop, length-take, length-drop}
use lib.Dec.{eqb}
use Rattle.base.proofs.Cases.{by_bool, by_eq}
use Rattle.number.specs.Stored.{value_from, value_of}
use Rattle.tagset.specs.Sets.{holds}
use Rattle.tagset.specs.declared.TagSet.{TagSet}
use Rattle.catalogue.specs.Items.{item_of}
use Rattle.catalogue.specs.Shapes.{shape_by, shape_of, is_empty}
use Rattle.catalogue.specs.declared.Item.{Item}
use Rattle.catalogue.specs.declared.Shape.{Shape}
use Rattle.catalogue.specs.declared.Shape.TheVariants.{Text, Number, Absent}
use Rattle.rows.specs.Meaning.{shape_for, mark_code, value_as, seen_as, kind_of, code_of, kind_for}
use Rattle.rows.proofs.Laws.{kind_valued, code_valued, code_seen}
use Rattle.rows.specs.declared.Part.{Part}
use Rattle.packet.specs.declared.Header.{Header}
use Rattle.walker.specs.Steps.{header_value, header_part, meaning_in, code_for, seen_in}
use Rattle.walker.specs.declared.Standing.{Standing}
use Rattle.std.specs.Prelude.{Option}

-- the shape of a tag, by whether it is known and by its catalogue item
module _ (K : TagSet) (t : ℕ) (b : Bool) (e : b ≡ holds K t) where
  pub not_known : b ≡ false → Absent ≡ shape_for (holds K) t
  unfolding shape_for
  not_known f = rw (← e, f)

  pub listed : b ≡ true → (l : Option Item) → l ≡ item_of t → shape_by l ≡ shape_for (holds K) t
  unfolding shape_for shape_of
  listed f l g = rw (← e, f, ← g)

-- a code and a kind say what is seen, wherever the value stands; the code of no bytes is 0
none_value : (w : List ℕ) → length w ≡ 0 → value_of w % 2 ^ 64 ≡ 0
unfolding value_from
none_value [] z = refl
none_value (x ∷ w) z = absurd (omega arith)

pub number_code : (l m : ℕ) (k : Bool) (w : List ℕ) → code_for (Number l m k) (value_of w % 2 ^ 64) (length w) ≡ value_of w % 2 ^ 64
number_code l m k w =
    by_eq (length w) 0
    (λ z. rw z (sym (none_value w z)))
    (λ some. code_seen (length w) (tt {0}) l m k (value_of w % 2 ^ 64) some)

pub code_by : (s x : Shape) (code v n : ℕ) → s ≡ x → code ≡ code_for x v n → code ≡ code_for s v n
code_by s x code v n e f = f ∙ sym (ap (λ y. code_for y v n) e)

module _ (v n : ℕ) (part : Part) where
  code_valued_so : (s : Shape) → code_of (value_as {A = Unit {0}} s v n tt) ≡ code_of (value_as s v n part)
  code_valued_so (Number l m k) = by_bool (k && eqb v (mark_code m)) (λ b. rw b) (λ b. rw b)
  code_valued_so Text = refl
  code_valued_so Absent = refl

  code_so : (s : Shape) → code_for s v n ≡ code_of (seen_as s v n part)
  code_so s = by_bool (is_empty s n) (λ e. rw e) (λ e. rw e (code_valued_so s))

  kind_valued_so : (s : Shape) → kind_of (value_as {A = Unit {0}} s (code_of (value_as {A = Unit {0}} s v n tt)) n tt) ≡ kind_of (value_as s v n part)
  kind_valued_so (Number l m k) = rw (code_valued n (tt {0}) l m k v) (kind_valued n (tt {0}) n part (Number l m k) v)
  kind_valued_so Text = refl
  kind_valued_so Absent = refl

  kind_so : (s : Shape) → kind_for s (code_for s v n) n ≡ kind_of (seen_as s v n part)
  kind_so s = by_bool (is_empty s n) (λ e. rw e) (λ e. rw e (kind_valued_so s))

pub standing_made : (K : TagSet) (p : List ℕ) (h : Header) (s : Shape) (code kind : ℕ) → h.place + h.size ≤ length p → s ≡ shape_for (holds K) h.tag
    → (let v = take (h.place + h.size - h.place) (drop h.place p) in code ≡ code_for s (value_of v % 2 ^ 64) (length v))
    → kind ≡ kind_for s code h.size
    → ◌≡◌ {A = Standing} (record { tag = h.tag; kind = kind; code = code; place = h.place; length = h.size; next = h.place + h.size }) (seen_in K p h)
unfolding seen_in
standing_made K p h s code kind inside e f g =
    let v : ℕ = value_of (header_value p h) % 2 ^ 64 in
    let n : ℕ = h.size in
    let size : h.place + n - h.place ≡ n = omega arith in
    let long : length (header_value p h) ≡ n = rw (length-take, length-drop) (omega arith) in
    let d : code ≡ code_for s v n =
    f ∙ (ap (λ m. code_for s (value_of (take m (drop h.place p)) % 2 ^ 64) (length (take m (drop h.place p)))) size ∙ ap (code_for s v) long) in
    let c : code ≡ code_of (meaning_in K p h) = d ∙ (code_so v n (header_part h) s ∙ ap (λ x. code_of (seen_as x v n (header_part h))) e) in
    let k : kind ≡ kind_of (meaning_in K p h) =
    g ∙ (ap (λ x. kind_for s x n) d ∙ (kind_so v n (header_part h) s ∙ ap (λ x. kind_of (seen_as x v n (header_part h))) e)) in
    λ i. record { tag = h.tag; kind = k i; code = c i; place = h.place; length = h.size; next = h.place + h.size }
