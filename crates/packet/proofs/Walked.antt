-- The items of a walk, each by its header: they lie in the packet, one after another.
-- Assumes nothing.
use Prim.Native.Nat.{ℕ, zero, suc, ◌+◌, ◌<◌, ◌≤◌}
use native.Mathlib.Omega.{arith}
use mathlib.Core.Path.{◌≡◌, refl, ap, sym, ◌∙◌}
use mathlib.Core.List.{List, [], ◌∷◌}
use lib.ListN.{length, drop}
use Rattle.base.proofs.Cases.{by_lt}
use Rattle.refusal.specs.Answer.{Answer, given, refused}
use Rattle.number.specs.Stored.{Bytes}
use Rattle.packet.specs.Pieces.{Item, Step, no_tag, no_length, one, read_item, before, walk}
use Rattle.packet.specs.Structure.{last_of}
use Rattle.packet.specs.Said.{header_by, header_at}
use Rattle.packet.specs.code.Headers.{item_by}
use Rattle.packet.specs.declared.Header.{Header}
use Rattle.packet.proofs.Walks.{walk_end, walk_full, walk_refused, walk_item, header_lies}

-- the items of a walk, each by its header
pub data Walked (p : List ℕ) : ℕ → List Item → Type 0 where
  done : {at : ℕ} → length p ≤ at → Walked p at []
  went : {at : ℕ} {is : List Item} (h : Header) → header_at p at ≡ given h → Walked p (h.place + h.size) is → Walked p at (item_by p h ∷ is)

module _ (p : List ℕ) (by : Bytes p) where
  empty_walk : (at : ℕ) (is : List Item) → length p ≤ at → given [] ≡ given is → Walked p at is
  empty_walk at is h e = let f : [] ≡ is = cc in rw (← f) (done h)

  walked_on : (n at : ℕ) (h : Header) (is : List Item) (w : Answer (List Item)) → header_at p at ≡ given h
      → ((js : List Item) → w ≡ given js → Walked p (h.place + h.size) js) → before (item_by p h) w ≡ given is → Walked p at is
  walked_on n at h is (given js) e rest f = let g : item_by p h ∷ js ≡ is = cc in rw (← g) (went h e (rest js refl))
  walked_on n at h is (refused r a t) e rest f = let z : ◌≡◌ {A = ℕ} 0 1 = cc in absurd (omega arith)

  by_header : (n at : ℕ) (is : List Item) → at < length p → ((b : ℕ) (js : List Item) → walk n b (drop b p) ≡ given js → Walked p b js)
      → (a : Answer Header) → header_at p at ≡ a → walk (suc n) at (drop at p) ≡ given is → Walked p at is
  by_header n at is h rest (given i) e f =
      walked_on n at i is (walk n (i.place + i.size) (drop (i.place + i.size) p)) e (λ js g. rest (i.place + i.size) js g) (sym (walk_item p at h n i e)
      ∙ f)
  by_header n at is h rest (refused r a t) e f =
      let z : refused r a t ≡ given is = sym (walk_refused p at h n r a t e) ∙ f in
      let y : ◌≡◌ {A = ℕ} 0 1 = cc in absurd (omega arith)

  pub walked : (n at : ℕ) (is : List Item) → walk n at (drop at p) ≡ given is → Walked p at is
  walked zero at is e =
      by_lt at (length p)
      (λ h. let z : refused 6 at 0 ≡ given is = sym (walk_full p at h) ∙ e in let y : ◌≡◌ {A = ℕ} 0 1 = cc in absurd (omega arith))
      (λ h. empty_walk at is h (sym (walk_end p at 0 h) ∙ e))
  walked (suc n) at is e =
      by_lt at (length p)
      (λ h. by_header n at is h (λ b js g. walked n b js g) (header_at p at) refl e)
      (λ h. empty_walk at is h (sym (walk_end p at (suc n) h) ∙ e))

-- an item starts where it is looked for
start_at : (at : ℕ) (s : Step) (h : Header) → header_by at s ≡ given h → h.start ≡ at
start_at at no_tag h e = let z : ◌≡◌ {A = ℕ} 0 1 = cc in absurd (omega arith)
start_at at (no_length t) h e = let z : ◌≡◌ {A = ℕ} 0 1 = cc in absurd (omega arith)
start_at at (one t k n) h e =
    let f : record { tag = t; start = at; place = at + k; size = n } ≡ h = cc in
    ap (λ g. g.start) (sym f)

pub header_start : (p : List ℕ) (at : ℕ) (h : Header) → header_at p at ≡ given h → h.start ≡ at
unfolding header_at
header_start p at h e = start_at at (read_item (drop at p)) h e

-- the last item lies in the packet
pub record Within (p : List ℕ) (i : Item) : Type 0 where
  pub header : Header
  pub item : i ≡ item_by p header
  pub inside : header.place + header.size ≤ length p
  pub found : header_at p i.start ≡ given header

pub last_within : (p : List ℕ) → Bytes p → {at : ℕ} (i : Item) (is : List Item) → Walked p at (i ∷ is) → Within p (last_of i is)
last_within p by {at} i [] (went h e w) =
    record { header = h; item = refl; inside = (header_lies p at by h e).inside; found = ap (header_at p) (header_start p at h e) ∙ e }
last_within p by {at} i (j ∷ js) (went h e w) = last_within p by {at = h.place + h.size} j js w

-- so does a walk's first item
pub first_start : (p : List ℕ) {at : ℕ} (i : Item) (is : List Item) → Walked p at (i ∷ is) → i.start ≡ at
first_start p {at} i is (went h e v) = header_start p at h e
