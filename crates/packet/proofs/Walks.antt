-- A walk item by item, and what it keeps.
-- Assumes nothing.
use Prim.Native.Nat.{ℕ, zero, suc, ◌+◌, ◌-◌, ◌<◌, ◌≤◌}
use native.Mathlib.Omega.{arith}
use native.Mathlib.Nat.{add_assoc}
use mathlib.Core.Path.{◌≡◌, refl, ap, sym, ◌∙◌}
use mathlib.Core.List.{List, []}
use lib.Dec.{leb}
use lib.ListN.{length, take, drop, get_or, length-take, length-drop}
use lib.Seq.{drop-drop, get_or-take, get_or-drop, length-take-le}
use borrow.Author.Tests.{lt-ltb, leb-true}
use Rattle.base.proofs.Cases.{by_bool}
use Rattle.base.proofs.Parts.{nil_at}
use Rattle.refusal.specs.Answer.{Answer, given, refused}
use Rattle.number.specs.Stored.{Bytes}
use Rattle.number.proofs.Laws.{bytes_drop, bytes_take}
use Rattle.ber.specs.Read.{Read, got, broken, read_tag, read_length}
use Rattle.ber.specs.Written.{tag_bytes, length_bytes}
use Rattle.ber.proofs.Laws.{TagRead, tag_read, LengthRead, length_read, form_ends}
use Rattle.tagset.specs.declared.TagSet.{TagSet}
use Rattle.packet.specs.Pieces.{Item, Step, no_tag, no_length, one, after_length, after_tag, read_item, before, onward, walk}
use Rattle.packet.specs.code.Headers.{header_of, item_by}
use Rattle.packet.specs.Said.{header_by, header_at}
use Rattle.packet.specs.code.Passing.{Kept, shortest, NoItem, with_item, kept_from, kept}
use Rattle.packet.specs.declared.Header.{Header}

module _ (p : List ℕ) (here : ℕ) where
  pub walk_end : (n : ℕ) → length p ≤ here → walk n here (drop here p) ≡ given []
  unfolding walk
  walk_end zero h = rw (nil_at p here h)
  walk_end (suc n) h = rw (nil_at p here h)

  module _ (h : here < length p) where
    some_left : 0 < length (drop here p)
    some_left = rw length-drop (omega arith)

    pub walk_full : walk 0 here (drop here p) ≡ refused 6 here 0
    unfolding walk
    walk_full = rw (lt-ltb 0 _ some_left)

    walk_more : (n : ℕ) → walk (suc n) here (drop here p) ≡ onward (λ a r. walk n a r) here (drop here p) (read_item (drop here p))
    unfolding walk
    walk_more n = rw (lt-ltb 0 _ some_left)

    refusing : (n r a t : ℕ) (s : Step) → header_by here s ≡ refused r a t → onward (λ b l. walk n b l) here (drop here p) s ≡ refused r a t
    refusing n r a t no_tag e = cc
    refusing n r a t (no_length g) e = cc
    refusing n r a t (one g k m) e = let z : ◌≡◌ {A = ℕ} 0 1 = cc in absurd (omega arith)

    pub walk_refused : (n r a t : ℕ) → header_at p here ≡ refused r a t → walk (suc n) here (drop here p) ≡ refused r a t
    unfolding header_at
    walk_refused n r a t e = walk_more n ∙ refusing n r a t (read_item (drop here p)) e

    finding : (n : ℕ) (i : Header) (s : Step) → header_by here s ≡ given i
        → onward (λ b l. walk n b l) here (drop here p) s ≡ before (item_by p i) (walk n (i.place + i.size) (drop (i.place + i.size) p))
    finding n i no_tag e = let z : ◌≡◌ {A = ℕ} 0 1 = cc in absurd (omega arith)
    finding n i (no_length g) e = let z : ◌≡◌ {A = ℕ} 0 1 = cc in absurd (omega arith)
    finding n i (one g k m) e =
        let f : record { tag = g; start = here; place = here + k; size = m } ≡ i = cc in
        rw (← f, drop-drop k here p, drop-drop (k + m) here p, add_assoc here k m)

    pub walk_item : (n : ℕ) (i : Header) → header_at p here ≡ given i
        → walk (suc n) here (drop here p) ≡ before (item_by p i) (walk n (i.place + i.size) (drop (i.place + i.size) p))
    unfolding header_at
    walk_item n i e = walk_more n ∙ finding n i (read_item (drop here p)) e

  -- a header lies within the packet, and the walk goes on
  pub record Lies (i : Header) : Type 0 where
    pub on : here < i.place + i.size
    pub two : here + 2 ≤ i.place
    pub inside : i.place + i.size ≤ length p
    pub formed : i.start + shortest i ≤ i.place
    -- a length of one byte stands before the value, in whatever form
    pub told : i.size < 256 → get_or p (i.place - 1) 0 ≡ i.size

  pub header_lies : Bytes p → (i : Header) → header_at p here ≡ given i → Lies i
  unfolding header_at read_item
  header_lies by i e = by_tag (read_tag (drop here p)) refl e
    where
      past : (t s n k : ℕ) → 0 < s → 0 < k → length (tag_bytes t) + length (length_bytes n) ≤ s + k
          → (n < 256 → get_or p (here + (s + k) - 1) 0 ≡ n) → header_by here (after_length (length (drop here p)) t s (got n k)) ≡ given i → Lies i
      past t s n k some more short told e =
          by_bool (leb (s + k + n) (length (drop here p)))
          (λ b. let f : given (record { tag = t; start = here; place = here + (s + k); size = n }) ≡ given i = rw b at e in
          let g : record { tag = t; start = here; place = here + (s + k); size = n } ≡ i = cc in
          let m : s + k + n ≤ length p - here = rw length-drop at (leb-true (s + k + n) (length (drop here p)) b) in
          rw (← g) (record { on = omega arith; two = omega arith; inside = omega arith; formed = omega arith; told = told }))
          (λ b. let f : refused 8 here t ≡ given i = rw b at e in let z : ◌≡◌ {A = ℕ} 0 1 = cc in absurd (omega arith))

      before_value : (s n k : ℕ) → LengthRead (drop s (drop here p)) n k → n < 256 → get_or p (here + (s + k) - 1) 0 ≡ n
      before_value s n k l small =
          let rest : List ℕ = drop s (drop here p) in
          let long : length (take k rest) ≡ k = length-take-le k rest l.inside in
          let at : here + (s + k) - 1 ≡ here + (s + (k - 1)) = omega (arith, l.some) in
          ap (λ j. get_or p j 0) at
          ∙ (sym (get_or-drop s (drop here p) (k - 1) 0 ∙ get_or-drop here p (s + (k - 1)) 0)
          ∙ (sym (get_or-take k rest (k - 1) 0 (omega (arith, l.some)))
          ∙ (ap (λ j. get_or (take k rest) (j - 1) 0) (sym long) ∙ form_ends l.form (bytes_take k rest (bytes_drop s (bytes_drop here by))) small)))

      by-length : (t s : ℕ) → TagRead (drop here p) t s → (r : Read) → read_length (drop s (drop here p)) ≡ r
          → header_by here (after_length (length (drop here p)) t s r) ≡ given i → Lies i
      by-length t s tag broken q e = let z : ◌≡◌ {A = ℕ} 0 1 = cc in absurd (omega arith)
      by-length t s tag (got n k) q e =
          let l = length_read _ n k (bytes_drop s (bytes_drop here by)) q in
          past t s n k tag.takes l.some (omega (arith, tag.size, l.shortest)) (λ small. before_value s n k l small) e

      by_tag : (r : Read) → read_tag (drop here p) ≡ r → header_by here (after_tag (drop here p) r) ≡ given i → Lies i
      by_tag broken q e = let z : ◌≡◌ {A = ℕ} 0 1 = cc in absurd (omega arith)
      by_tag (got t s) q e = by-length t s (tag_read (drop here p) t s (bytes_drop here by) q) (read_length (drop s (drop here p))) refl e

-- no item begins with the last byte, for each has two
pub last_none : (p : List ℕ) (here : ℕ) → Bytes p → length p ≤ here + 1 → NoItem p here
last_none p here by h = go (header_at p here) refl
  where
    go : (a : Answer Header) → header_at p here ≡ a → NoItem p here
    go (given i) e = let l = header_lies p here by i e in absurd (omega (arith, l.two, l.inside))
    go (refused n a t) e = record { number = n; place = a; tag = t; refuses = e }

-- the header of the item that a header stands for
pub header_back : (p : List ℕ) (i : Header) → i.place + i.size ≤ length p → header_of (item_by p i) ≡ i
header_back p i h =
    let e : length (take i.size (drop i.place p)) ≡ i.size = rw (length-take, length-drop) (omega arith) in
    λ k. record { tag = i.tag; start = i.start; place = i.place; size = e k }

pub kept_before : (K : TagSet) (k : Kept) (i : Item) (w : Answer (List Item)) → kept K k (before i w) ≡ kept K (with_item K k i) w
unfolding kept_from
kept_before K k i (given is) = refl
kept_before K k i (refused n p t) = refl

pub kept_none : (K : TagSet) (k : Kept) → kept K k (given []) ≡ given k
unfolding kept_from
kept_none K k = refl
