-- A packet sent on in its shortest form: it is no longer than it was, and every receiver gives it the same verdict, up to places.
-- Assumes nothing.
use Prim.Native.Nat.{ℕ, ◌≤◌}
use native.Mathlib.Omega.{arith}
use mathlib.Core.Path.{◌≡◌, refl, ap, ◌∙◌}
use mathlib.Core.List.{List, [], ◌∷◌, ◌++◌}
use lib.ListN.{length, length-append}
use Rattle.base.proofs.Cases.{by_bool}
use Rattle.base.specs.Every.{Each}
use Rattle.refusal.specs.Answer.{Answer, given, refused}
use Rattle.refusal.proofs.Answers.{passed}
use Rattle.number.specs.Stored.{Bytes}
use Rattle.number.proofs.Laws.{bytes_left, bytes_right}
use Rattle.ber.specs.Written.{tag_bytes}
use Rattle.ber.proofs.Laws.{form_shortest, length_mono}
use Rattle.tagset.specs.Sets.{holds}
use Rattle.tagset.specs.declared.TagSet.{TagSet}
use Rattle.knowing.specs.Good.{good}
use Rattle.packet.specs.Pieces.{Item, pieces}
use Rattle.packet.specs.Structure.{key, structure}
use Rattle.packet.specs.Judge.{Knowing, Judged, fine, faulty, no_version, judge}
use Rattle.packet.specs.Verdict.{placed, verdict, received}
use Rattle.packet.specs.Encode.{item_bytes, items_bytes, encode, canonical}
use Rattle.packet.specs.Allowed.{ItemsOf, no_more, another, Formed}
use Rattle.laws.proofs.Items.{piece_length}
use Rattle.laws.proofs.Structure.{structure_formed, formed_length}
use Rattle.laws.proofs.Accepted.{accepts}
use Rattle.laws.proofs.Written.{length_item, length_pieces, Tagged, SameBut, judged_alike, Sendable, length_encode, ReadBack, read_back, encode_bytes}

-- an item that stands there can be written
pub items_tagged : {at : ℕ} {l : List ℕ} {is : List Item} → ItemsOf at l is → Each Tagged (pieces is)
items_tagged no_more = tt
items_tagged (another c form rest some small f i) = (record { some = some; small = small }, items_tagged i)

-- and takes no more bytes then
pub items_shorter : {at : ℕ} {l : List ℕ} {is : List Item} → ItemsOf at l is → Bytes l → length (items_bytes (pieces is)) ≤ length l
unfolding items_bytes
items_shorter no_more by = omega arith
items_shorter (another {is} c form rest some small f i) by =
    let by₁ : Bytes (form ++ (c.value ++ rest)) = bytes_right (tag_bytes c.tag) _ by in
    let by₂ : Bytes rest = bytes_right c.value rest (bytes_right form _ by₁) in
    omega (
      arith,
      items_shorter i by₂,
      form_shortest f (bytes_left form _ by₁),
      piece_length c form rest,
      length-append (item_bytes c) (items_bytes (pieces is)),
      length_item c,
    )

-- its value is bytes
items_values : {at : ℕ} {l : List ℕ} {is : List Item} → ItemsOf at l is → Bytes l → Each (λ c. Bytes c.value) (pieces is)
items_values no_more by = tt
items_values (another c form rest some small f i) by =
    let after : Bytes (c.value ++ rest) = bytes_right form _ (bytes_right (tag_bytes c.tag) _ by) in
    (bytes_left c.value rest after, items_values i (bytes_right c.value rest after))

pieces_append : (is js : List Item) → pieces (is ++ js) ≡ pieces is ++ pieces js
pieces_append [] js = refl
pieces_append (i ∷ is) js = ap (λ x. i.piece ∷ x) (pieces_append is js)

module _ (p : List ℕ) (is : List Item) (by : Bytes p) (f : Formed p is) where
  pub body_bytes : Bytes (f.form ++ f.body)
  body_bytes = bytes_right key _ (rw f.whole at by)

  encode_shorter : length (encode (pieces is)) ≤ length p
  encode_shorter =
      let n : ℕ = length (items_bytes (pieces is)) in
      let k : n ≤ length f.body = items_shorter f.items (bytes_right f.form _ body_bytes) in
      omega (
        arith,
        formed_length p is f,
        length_encode (pieces is),
        f.small,
        form_shortest f.outer (bytes_left f.form _ body_bytes),
        length_mono n (length f.body) k (omega (arith, formed_length p is f, f.small)),
      )

  -- what was read can be sent
  pub sendable : Sendable (pieces is)
  sendable =
      record {
        tags = items_tagged f.items;
        few = rw length_pieces f.few;
        first = f.first.piece;
        others = pieces f.others;
        begins = ap pieces f.begins;
        time = f.time;
        front = pieces f.front;
        last = f.last.piece;
        closes = ap pieces f.closes ∙ pieces_append f.front (f.last ∷ []);
        checksum = f.checksum;
        pair = f.pair;
        fits = omega (arith, encode_shorter, f.small);
      }

-- two verdicts up to places: the same refusal and tag, or the same pieces, the checksum's value aside
pub data Alike : Answer (List Item) → Answer (List Item) → Type 0 where
  both_refused : {n t a b : ℕ} → Alike (refused n a t) (refused n b t)
  both_given : {is js : List Item} → SameBut (pieces is) (pieces js) → Alike (given is) (given js)

-- a packet whose structure is right
module _ (p : List ℕ) (is : List Item) (by : Bytes p) (e : structure p ≡ given is) where
  -- what is sent on is the packet's pieces, written
  pub canonical_is : canonical p ≡ encode (pieces is)
  unfolding canonical
  canonical_is = rw e

  -- and is read back
  pub canonical_back : ReadBack (pieces is)
  canonical_back = read_back (pieces is) (sendable p is by (structure_formed p is by e))

  -- what is sent on is never longer
  pub canonical_shorter : length (canonical p) ≤ length p
  canonical_shorter = rw canonical_is (encode_shorter p is by (structure_formed p is by e))

  -- it is bytes
  pub canonical_bytes : Bytes (canonical p)
  canonical_bytes =
      let f = structure_formed p is by e in
      let inside : Bytes f.body = bytes_right f.form _ (body_bytes p is by f) in
      rw canonical_is (encode_bytes (pieces is) (items_tagged f.items) (items_values f.items inside)
      (omega (arith, items_shorter f.items inside, formed_length p is f, f.small)))

  -- whoever gets what is sent on gives it the verdict that it gives the packet, up to places
  pub canonical_alike : (K : Knowing) → Alike (verdict K p) (verdict K (canonical p))
  unfolding verdict
  canonical_alike K = rw (canonical_is, e, canonical_back.read, ← (judged_alike K canonical_back.same)) (go (judge K (pieces is)))
    where
      go : (j : Judged) → Alike (placed is j) (placed canonical_back.items j)
      go fine = both_given canonical_back.same
      go (faulty k n t) = both_refused
      go no_version = both_refused

  -- sending on twice is sending on once
  pub canonical_twice : canonical (canonical p) ≡ canonical p
  unfolding canonical
  canonical_twice = rw (e, canonical_back.read) canonical_back.again

-- a packet that some receiver accepts, whoever it is: what is sent on is never longer
module _ (K : Knowing) (p : List ℕ) (is : List Item) (by : Bytes p) (e : verdict K p ≡ given is) where
  pub forward_shorter : length (canonical p) ≤ length p
  forward_shorter = canonical_shorter p is by (accepts K p is e).found

  -- every other gives it the verdict that it gives the packet, up to places
  pub forward_alike : (K' : Knowing) → Alike (verdict K' p) (verdict K' (canonical p))
  forward_alike = canonical_alike p is by (accepts K p is e).found

  -- and sends it on as it is
  pub forward_twice : canonical (canonical p) ≡ canonical p
  forward_twice = canonical_twice p is by (accepts K p is e).found

-- the same over knowing sets of words, good or not
pub received_alike : (K K' : TagSet) (p : List ℕ) (is : List Item) → Bytes p → received K p ≡ given is → Alike (received K' p) (received K' (canonical p))
unfolding received
received_alike K K' p is by e =
    let g = passed (good K) (verdict (holds K) p) 1 0 0 e in
    by_bool (good K') (λ g'. rw g' (forward_alike (holds K) p is by g.1 (holds K'))) (λ g'. rw g' both_refused)
