-- An item as it is sent on, how many bytes all items are then, and what the walk that puts them keeps: the output that they will make.
-- Assumes nothing.
use Prim.Native.Nat.{ℕ, ◌+◌, ◌-◌, ◌<◌, ◌≤◌}
use native.Mathlib.Omega.{arith}
use mathlib.Core.Path.{◌≡◌, refl, ap, sym, ◌∙◌}
use mathlib.Core.List.{List, [], ◌∷◌}
use lib.ListN.{length, take, drop, length-append, length-take, length-drop}
use Rattle.base.proofs.Cases.{never, by_lt}
use Rattle.base.proofs.Parts.{part_lent}
use Rattle.base.specs.Putting.{put_into, Room, Wrote}
use Rattle.base.proofs.Putting.{to_write, wrote_as, wrote_nothing}
use Rattle.refusal.specs.Answer.{given, refused}
use Rattle.number.specs.Stored.{Bytes}
use Rattle.ber.specs.Written.{tag_bytes, length_bytes}
use Rattle.packet.specs.Pieces.{Item, pieces}
use Rattle.packet.specs.Structure.{structure, ItemsFrom}
use Rattle.packet.specs.code.Headers.{item_by}
use Rattle.packet.specs.Said.{header_at}
use Rattle.packet.specs.Encode.{pieces_in, item_bytes, longer_by, longer_of, items_bytes, canonical}
use Rattle.packet.specs.code.Passing.{longer_in}
use Rattle.packet.specs.declared.Header.{Header}
use Rattle.packet.proofs.Walks.{Lies, header_lies}
use Rattle.packet.proofs.Walked.{Walked, done, went, walked, header_start}
use Rattle.laws.proofs.Structure.{structure_formed}
use Rattle.laws.proofs.Written.{length_item, length_encode}
use Rattle.laws.proofs.Forward.{canonical_shorter}
use Rattle.writer.proofs.Pieces.{piece_room, piece_put}
use Rattle.relay.specs.code.Sends.{items_for, LongerBy}
use Rattle.packet.proofs.Ahead.{Ahead, no_more, not_refused, Next, next}

-- the item that a header stands for, within the packet
module _ (p : List ℕ) (i : Header) (inside : i.place + i.size ≤ length p) where
  pub value_size : length (item_by p i).piece.value ≡ i.size
  value_size = rw (length-take, length-drop) (omega arith)

  -- as code lends it
  pub value_lent : take (i.place + i.size - i.place) (drop i.place p) ≡ (item_by p i).piece.value
  value_lent = part_lent p i.place i.size

  pub item_size : {tag form : ℕ} → tag ≡ length (tag_bytes i.tag) → form ≡ length (length_bytes i.size)
      → tag + form + i.size ≡ length (item_bytes (item_by p i).piece)
  item_size e f = rw (e, f) (sym (length_item (item_by p i).piece ∙ ap (λ n. length (tag_bytes i.tag) + length (length_bytes n) + n) value_size))

-- all items from a place on: as they are sent on, they have fewer bytes by those that their lengths were longer
items_longer : (p : List ℕ) → Bytes p → {at : ℕ} (is : List Item) → Walked p at is → at ≤ length p
    → at + (length (items_bytes (pieces is)) + longer_of is) ≡ length p
unfolding items_bytes longer_of
items_longer p by [] (done h) k = omega arith
items_longer p by {at} (i ∷ is) (went h e rest) k =
    let l = header_lies p at by h e in
    let size = value_size p h l.inside in
    let one = item_size p h l.inside refl refl in
    let by_size : longer_by i ≡ longer_in h = ap (λ n. h.place - h.start - length (tag_bytes h.tag) - length (length_bytes n)) size in
    let both = length-append (item_bytes (item_by p h).piece) (items_bytes (pieces is)) in
    omega (arith, l, header_start p at h e, one, by_size, both, items_longer p by {at = h.place + h.size} is rest l.inside)

-- those of a packet of right structure, which begin before its end
some_inside : (p : List ℕ) → Bytes p → {at : ℕ} {is js : List Item} {i : Item} → Walked p at is → is ≡ i ∷ js → at ≤ length p
some_inside p by (done h) e = never (cc)
some_inside p by {at} (went h e rest) f = omega (arith, header_lies p at by h e)

-- key, length, items
pub canonical_size : (p : List ℕ) → length (canonical p) ≡ 16 + length (length_bytes (length (items_for p))) + length (items_for p)
unfolding canonical
canonical_size p = length_encode (pieces_in (structure p))

pub items_left : {p : List ℕ} {from longer : ℕ} → LongerBy p from longer → length p - from - longer ≡ length (items_for p)
items_left l = omega (arith, l.sizes)

pub packet_size : (p : List ℕ) {items form : ℕ} → items ≡ length (items_for p) → form ≡ length (length_bytes items)
    → 16 + form + items ≡ length (canonical p)
packet_size p e f = rw (f, e) (sym (canonical_size p))

-- the items ahead wait to be put at a place: they make the output x and end at a place
pub record Waiting (p : List ℕ) (here : ℕ) (o : List ℕ) (at end : ℕ) (x : List ℕ) : Type 0 where
  pub ahead : Ahead p here
  pub rest : Wrote o at (items_bytes (pieces ahead.items)) end x

-- all items of a packet whose structure is right
module _ (p : List ℕ) (from : ℕ) (f : ItemsFrom p from) where
  pub small : Bytes p → length (canonical p) ≤ 8192
  small by = omega (arith, canonical_shorter p f.items by f.found, (structure_formed p f.items by f.found).small)

  abbrev all_ahead : Ahead p from
  all_ahead = record { most = 128; items = f.items; walks = f.walked }

  its_items : items_bytes (pieces f.items) ≡ items_for p
  its_items = ap (λ a. items_bytes (pieces_in a)) (sym f.found)

  pub all_longer : Bytes p → from + (length (items_for p) + longer_of f.items) ≡ length p
  all_longer by =
      let w = walked p by 128 from f.items f.walked in
      rw (← its_items) (items_longer p by f.items w (some_inside p by w (structure_formed p f.items by f.found).begins))

  pub all_waiting : {o : List ℕ} {start : ℕ} → Room o start (items_for p)
      → Waiting p from o start (start + length (items_for p)) (put_into o start (items_for p))
  all_waiting h = record { ahead = all_ahead; rest = wrote_as (sym its_items) (to_write h) }

-- an item that the code found
pub item_lies : (p : List ℕ) (here : ℕ) {i : Header} → header_at p here ≡ given i → Bytes p → Lies p here i
item_lies p here {i} e by = header_lies p here by i e

-- item by item
module _ (p : List ℕ) (here : ℕ) where
  module _ {o : List ℕ} {at end : ℕ} {x : List ℕ} (w : Waiting p here o at end x) where
    none_ahead : (r b g : ℕ) → header_at p here ≡ refused r b g → w.ahead.items ≡ []
    none_ahead r b g e = by_lt here (length p) (λ h. not_refused p here w.ahead h r b g e) (λ h. no_more p here w.ahead h)

    pub put_done : {r b g : ℕ} → header_at p here ≡ refused r b g → (end ≡ at) × (x ≡ o)
    unfolding items_bytes
    put_done {r} {b} {g} f =
        let e : items_bytes (pieces w.ahead.items) ≡ [] = ap (λ is. items_bytes (pieces is)) (none_ahead r b g f) in
        wrote_nothing (wrote_as e w.rest)

    module _ {i : Header} (e : header_at p here ≡ given i) (by : Bytes p) where
      inside : here < length p
      inside = omega (arith, header_lies p here by i e)

      put_next : Next p here w.ahead inside i
      put_next = next p here w.ahead inside i e

      this : Wrote o at (items_bytes ((item_by p i).piece ∷ pieces put_next.ahead.items)) end x
      this = wrote_as (ap (λ is. items_bytes (pieces is)) put_next.items) w.rest

      pub put_room : Room o at (item_bytes (item_by p i).piece)
      put_room = piece_room _ _ this

      pub put_more : {at' : ℕ} {o' : List ℕ} → Wrote o at (item_bytes (item_by p i).piece) at' o' → Waiting p (i.place + i.size) o' at' end x
      put_more v = record { ahead = put_next.ahead; rest = piece_put _ _ this v }
