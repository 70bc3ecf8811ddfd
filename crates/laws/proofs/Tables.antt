-- Demand 3, first half, over the tables: the same row for every item whose tag the smaller set knows, and a carried row for every other.
-- Assumes nothing.
use Prim.Native.Nat.{ℕ, zero, suc, ◌+◌, ◌-◌, ◌*◌, ◌<◌, ◌≤◌}
use native.Mathlib.Omega.{arith}
use native.Mathlib.Nat.{add-zero}
use native.Mathlib.Numerals.{add-one}
use mathlib.Core.Path.{◌≡◌, refl, ap, ap₂, ◌∙◌}
use mathlib.Core.Bool.{true, false}
use mathlib.Core.List.{List, [], ◌∷◌, ◌++◌}
use lib.ListN.{length, get_or}
use lib.Dec.{ltb}
use borrow.Author.Tests.{ltb-false, le-ltb}
use Rattle.refusal.specs.Answer.{given, refused}
use Rattle.refusal.proofs.Answers.{passed, missed, map_given, map_refused}
use Rattle.number.specs.Stored.{Bytes}
use Rattle.tagset.specs.Sets.{holds}
use Rattle.tagset.specs.declared.TagSet.{TagSet}
use Rattle.tagset.proofs.Laws.{Words, Included}
use Rattle.knowing.proofs.Laws.{good_means}
use Rattle.knowing.specs.Good.{good}
use Rattle.packet.specs.Pieces.{Item}
use Rattle.packet.specs.Judge.{Knowing}
use Rattle.packet.specs.Verdict.{verdict, received}
use Rattle.packet.specs.Allowed.{Allowed}
use Rattle.rows.specs.Meaning.{shape_for}
use Rattle.rows.specs.Taken.{row_at}
use Rattle.packet.specs.Rows.{row_of, rows_of, words, table_of, lent_verdict, Filled, filled_by, read_answer, table_by, read_table, rows_in}
use Rattle.laws.specs.Receivers.{Below, Only, carried, SmallerRow, filled_within}
use Rattle.laws.proofs.Accepted.{accepted_allowed, allowed_accepted}
use Rattle.laws.proofs.Receivers.{larger_accepts, larger_refuses}
use Rattle.laws.proofs.Present.{smaller_present, smaller_withdrawn}

abbrev item_in : List Item → ℕ → Item
item_in is k = get_or is k (record { start = 0; place = 0; piece = record { tag = 0; value = [] } })

-- an item's two rows
module _ (K K' : Knowing) (i : Item) where
  -- who knows the tag gives the row that everyone gives who knows more
  pub known_row : Below K K' → K i.piece.tag ≡ true → row_of K i ≡ row_of K' i
  unfolding row_of shape_for
  known_row below e = rw (e, below i.piece.tag e)

  -- who does not know the tag carries
  pub unknown_row : K i.piece.tag ≡ false → row_of K i ≡ carried (row_of K' i)
  unfolding row_of shape_for
  unknown_row e = rw e

-- the rows are in the table, four words each
row_in : (K : Knowing) (is : List Item) (rest : List ℕ) (k : ℕ) → k < length is → row_at (words (rows_of K is) ++ rest) k ≡ row_of K (item_in is k)
unfolding words rows_of row_at
row_in K [] rest k h = absurd (omega arith)
row_in K (i ∷ is) rest zero h = refl
row_in K (i ∷ is) rest (suc k) h =
    let none : 4 * suc k ≡ suc (suc (suc (suc (4 * k)))) = omega arith in
    let some : (n : ℕ) → suc (suc (suc (suc (4 * k)))) + n ≡ suc (suc (suc (suc (4 * k + n)))) = λ n. omega arith in
    rw (none, some 1, some 2, some 3) (row_in K is rest k (omega arith))

row_in_table : (K : Knowing) (is : List Item) (t : List ℕ) (k : ℕ) → k < length is → row_at (table_of K is t) k ≡ row_of K (item_in is k)
unfolding table_of
row_in_table K is t k h = row_in K is _ k h

all_rows : (K : Knowing) (is : List Item) (t : List ℕ) (k : ℕ) → ((j : ℕ) → j < length is → row_at t (k + j) ≡ row_of K (item_in is j))
    → rows_in k (length is) t ≡ rows_of K is
unfolding rows_of rows_in
all_rows K [] t k h = refl
all_rows K (i ∷ is) t k h =
    let first : row_at t k ≡ row_of K i = rw add-zero at (h 0 (omega arith)) in
    let others : (j : ℕ) → j < length is → row_at t (suc k + j) ≡ row_of K (item_in is j) = λ j l.
    rw (let e : suc k + j ≡ k + suc j = omega arith in e) (h (suc j) (omega arith)) in
    rw (first, all_rows K is t (suc k) others)

pub rows_in_table : (K : Knowing) (is : List Item) (t : List ℕ) (n : ℕ) → length is ≡ n → rows_in 0 n (table_of K is t) ≡ rows_of K is
rows_in_table K is t n e =
    rw (← e) (all_rows K is (table_of K is t) 0 (λ j h. rw (let z : 0 + j ≡ j = omega arith in z) (row_in_table K is t j h)))

-- as many rows as were asked for, and as there are items
pub rows_count : (k n : ℕ) (t : List ℕ) → length (rows_in k n t) ≡ n
unfolding rows_in
rows_count k zero t = refl
rows_count k (suc n) t = ap suc (rows_count (suc k) n t)

pub items_count : (K : Knowing) (is : List Item) → length (rows_of K is) ≡ length is
unfolding rows_of
items_count K [] = refl
items_count K (i ∷ is) = ap suc (items_count K is)

-- of count rows those from the one numbered n on
module _ (words : List ℕ) (n count : ℕ) where
  pub rows-from : n < count → rows_in n (count - n) words ≡ row_at words n ∷ rows_in (n + 1) (count - (n + 1)) words
  unfolding rows_in
  rows-from h = let e : count - n ≡ suc (count - (n + 1)) = omega arith in rw (e, add-one)

  pub rows_none : count ≤ n → rows_in n (count - n) words ≡ []
  unfolding rows_in
  rows_none h = let e : count - n ≡ 0 = omega arith in rw e

-- what a receiver that has read a packet has: its set is good, its table long enough, and the table's rows are the items' own
pub record HasRead (K : TagSet) (p t : List ℕ) (done : Filled) : Type 0 where
  pub items : List Item
  pub filled : filled_by (holds K) items ≡ done
  pub right : good K ≡ true
  pub long : 512 ≤ length t
  pub accepted : verdict (holds K) p ≡ given items
  pub table : read_table K p t ≡ table_of (holds K) items t

pub has_read : (K : TagSet) (p t : List ℕ) (done : Filled) → read_answer K p t ≡ given done → HasRead K p t done
unfolding read_answer read_table lent_verdict
has_read K p t done e =
    let f = map_given (filled_by (holds K)) (lent_verdict K p t) e in
    let g = passed (good K) _ 1 0 0 f.1 in
    let h = missed (ltb (length t) 512) _ 2 0 0 g.1 in
    record { items = f.0; filled = f.2; right = g.0; long = ltb-false _ _ h.0; accepted = h.1; table = ap (table_by (holds K) t) f.1 }

-- as many items as it says
pub read_count : {K : TagSet} {p t : List ℕ} {done : Filled} (r : HasRead K p t done) → length r.items ≡ done.count
read_count r = ap (λ f. f.count) r.filled

-- what it has received: the items, of which the table holds the rows
pub record Received (K : TagSet) (p t : List ℕ) (done : Filled) : Type 0 where
  pub items : List Item
  pub accepted : received K p ≡ given items
  pub rows : rows_in 0 done.count (read_table K p t) ≡ rows_of (holds K) items

pub has_received : (K : TagSet) (p t : List ℕ) (done : Filled) → read_answer K p t ≡ given done → Received K p t done
unfolding received
has_received K p t done e =
    let r = has_read K p t done e in
    record {
      items = r.items;
      accepted = rw (r.right, r.accepted);
      rows = rw r.table (rows_in_table (holds K) r.items t done.count (read_count r));
    }

-- with a table that is long enough its refusal is the one of a receiver that is lent none
pub received_refused : (K : TagSet) (p t : List ℕ) → 512 ≤ length t → (n a u : ℕ) → read_answer K p t ≡ refused n a u → received K p ≡ refused n a u
unfolding read_answer lent_verdict received
received_refused K p t long n a u e = map_refused (filled_by (holds K)) (received K p) n a u (rw (le-ltb (length t) 512 long) at e)

-- a good set and a table of at least 512 words
module _ (K : TagSet) (p t : List ℕ) (g : good K ≡ true) (long : 512 ≤ length t) where
  pub lent-verdict : lent_verdict K p t ≡ verdict (holds K) p
  unfolding lent_verdict
  lent-verdict = rw (g, le-ltb (length t) 512 long)

  answer_given : (is : List Item) → verdict (holds K) p ≡ given is → read_answer K p t ≡ given (filled_by (holds K) is)
  unfolding read_answer
  answer_given is e = rw (lent-verdict, e)

  table_given : (is : List Item) → verdict (holds K) p ≡ given is → read_table K p t ≡ table_of (holds K) is t
  unfolding read_table
  table_given is e = rw (lent-verdict, e)

  -- who has a good set and a table of at least 512 words reads every packet that is allowed
  pub allowed_read : (is : List Item) → Allowed (holds K) p is
      → (read_answer K p t ≡ given (filled_by (holds K) is)) × (read_table K p t ≡ table_of (holds K) is t)
  allowed_read is a = let e = allowed_accepted (holds K) p is a in (answer_given is e, table_given is e)

  answer_refused : (n a u : ℕ) → read_answer K p t ≡ refused n a u → verdict (holds K) p ≡ refused n a u
  unfolding read_answer
  answer_refused n a u e = map_refused (filled_by (holds K)) (verdict (holds K) p) n a u (rw lent-verdict at e)

-- who answers a count reads what is allowed
pub read_allowed : (K : TagSet) (p t : List ℕ) (done : Filled) → Bytes p → read_answer K p t ≡ given done
    → (is : List Item) × (filled_by (holds K) is ≡ done) × Allowed (holds K) p is
read_allowed K p t done by e =
    let r = has_read K p t done e in
    (r.items, r.filled, accepted_allowed (holds K) p r.items by r.accepted)

-- two good sets, one included in the other, and two tables of at least 512 words
module _ (K K' : TagSet) (g : good K ≡ true) (g' : good K' ≡ true) (within : Included K K')
    (p t t' : List ℕ) (long : 512 ≤ length t) (long' : 512 ≤ length t') where
  smaller : (done : Filled) (r : HasRead K' p t' done) → verdict (holds K) p ≡ given r.items
  smaller done r = larger_accepts (holds K) (holds K') within.each p r.items r.accepted

  -- a packet that the larger accepts the smaller accepts, with as many rows, and those of its words that it knows
  pub read_larger : Words K → Words K' → (done : Filled) → read_answer K' p t' ≡ given done → read_answer K p t ≡ given (filled_within K done)
  read_larger w w' done e =
      let r = has_read K' p t' done e in
      let knows = good_means K w g in
      let knows' = good_means K' w' g' in
      answer_given K p t g long r.items (smaller done r)
      ∙ (ap₂ (λ s u. given (record { count = length r.items; present = s; withdrawn = u }))
      (smaller_present K K' w w' knows knows' within r.items) (smaller_withdrawn K K' w w' knows knows' within r.items)
      ∙ ap (λ f. given (filled_within K f)) r.filled)

  -- the same row for every item whose tag the smaller knows, a carried one with the same place and length for every other
  pub read_rows : (done : Filled) (k : ℕ) → read_answer K' p t' ≡ given done → k < done.count
      → SmallerRow (holds K) (row_at (read_table K p t) k) (row_at (read_table K' p t') k)
  unfolding row_of
  read_rows done k e h =
      let r = has_read K' p t' done e in
      let is : List Item = r.items in
      let l : k < length is = omega (arith, read_count r) in
      let i : Item = item_in is k in
      rw (table_given K p t g long is (smaller done r), r.table, row_in_table (holds K) is t k l, row_in_table (holds K') is t' k l)
      (record { known = known_row (holds K) (holds K') i within.each; unknown = unknown_row (holds K) (holds K') i })

  -- where only the larger refuses, it does so at a tag that only it knows
  pub read_only : (done : Filled) (m a u : ℕ) → read_answer K p t ≡ given done → read_answer K' p t' ≡ refused m a u → Only (holds K) (holds K') u
  read_only done m a u e f =
      let r = has_read K p t done e in
      larger_refuses (holds K) (holds K') within.each p r.items m a u r.accepted (answer_refused K' p t' g' long' m a u f)
