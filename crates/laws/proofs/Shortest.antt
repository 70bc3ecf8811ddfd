-- A packet whose lengths are all in their shortest form is sent on as it is.
-- Assumes nothing.
use Prim.Native.Nat.{ℕ, ◌+◌, ◌-◌, ◌^◌, ◌<◌, ◌≤◌}
use native.Mathlib.Omega.{arith}
use mathlib.Core.Path.{◌≡◌, refl, ap, sym, ◌∙◌}
use mathlib.Core.List.{List, [], ◌∷◌, ◌++◌, append_assoc}
use lib.ListN.{length, take, drop, length-append, length-drop, take-append-drop}
use lib.Seq.{take_all}
use Rattle.base.specs.Every.{Each}
use Rattle.refusal.specs.Answer.{given}
use Rattle.number.specs.Stored.{Bytes, bytes_of}
use Rattle.number.proofs.Laws.{bytes_left, bytes_right, bytes_drop, spelled}
use Rattle.ber.specs.Written.{tag_bytes, length_bytes}
use Rattle.ber.proofs.Laws.{form_shortest, form_one, length_mono}
use Rattle.checksum.specs.Sum.{checksum_of}
use Rattle.packet.specs.Pieces.{Item, pieces}
use Rattle.packet.specs.Structure.{structure}
use Rattle.packet.specs.Verdict.{start_of}
use Rattle.packet.specs.Encode.{item_bytes, items_bytes, unsummed, summed, encode, canonical}
use Rattle.packet.specs.Allowed.{ItemsOf, no_more, another, Formed}
use Rattle.laws.proofs.Items.{piece_length}
use Rattle.laws.proofs.Structure.{structure_formed, formed_length, formed_sum}
use Rattle.laws.proofs.Written.{short_head, length_item, length_encode}
use Rattle.laws.proofs.Forward.{items_shorter, body_bytes, canonical_is}
use Rattle.laws.proofs.Sent.{Lies, formed_lie}

-- items that take no fewer bytes when they are written are written as they stand
items_same : {at : ℕ} {l : List ℕ} {is : List Item} → ItemsOf at l is → Bytes l → length l < 2 ^ 32 → length l ≤ length (items_bytes (pieces is))
    → items_bytes (pieces is) ≡ l
unfolding items_bytes item_bytes
items_same no_more by k h = refl
items_same (another {is} c form rest some small f i) by k h =
    let by₁ : Bytes (form ++ (c.value ++ rest)) = bytes_right (tag_bytes c.tag) _ by in
    let by₂ : Bytes rest = bytes_right c.value rest (bytes_right form _ by₁) in
    let shorter = items_shorter i by₂ in
    let shortest = form_shortest f (bytes_left form _ by₁) in
    let old = piece_length c form rest in
    let new = length-append (item_bytes c) (items_bytes (pieces is)) in
    let head = length_item c in
    let same : form ≡ length_bytes (length c.value) = form_one f (bytes_left form _ by₁) (omega arith) (omega arith) in
    rw (items_same i by₂ (omega arith) (omega arith), same) (simp append_assoc)

each_last : (P : Item → Type 0) (front : List Item) (z : Item) → Each P (front ++ (z ∷ [])) → P z
each_last P [] z e = e.0
each_last P (i ∷ front) z e = each_last P front z e.1

module _ (p : List ℕ) (is : List Item) (by : Bytes p) (f : Formed p is) where
  -- the checksum of a packet is right already
  summed_same : summed p ≡ p
  unfolding summed
  summed_same =
      let z : Item = f.last in
      let v : List ℕ = z.piece.value in
      let place : length p - 2 ≡ z.place = omega (arith, formed_sum p is f) in
      let lies : Lies p z = each_last (Lies p) f.front z (rw f.closes at (formed_lie p is f)) in
      let rest : v ≡ drop z.place p = lies.there
      ∙ take_all (length v) (drop z.place p) (omega (arith, length-drop z.place p, formed_sum p is f, f.pair)) in
      let sum : bytes_of 2 (checksum_of (take z.place p)) ≡ v = spelled v 2 _ (rw rest (bytes_drop z.place by)) f.pair f.sum in
      rw (place, sum, rest) (take-append-drop z.place p)

  -- a packet that cannot be shorter
  unsummed_same : length (encode (pieces is)) ≡ length p → unsummed (pieces is) ≡ p
  unfolding unsummed
  unsummed_same e =
      let n : ℕ = length (items_bytes (pieces is)) in
      let size = formed_length p is f in
      let less : n ≤ length f.body = items_shorter f.items (bytes_right f.form _ (body_bytes p is by f)) in
      let forms = form_shortest f.outer (bytes_left f.form _ (body_bytes p is by f)) in
      let below : length f.body < 2 ^ 32 = omega (arith, f.small) in
      let mono = length_mono n (length f.body) less below in
      let whole = length_encode (pieces is) in
      let items : items_bytes (pieces is) ≡ f.body =
      items_same f.items (bytes_right f.form _ (body_bytes p is by f)) below (omega arith) in
      let form : f.form ≡ length_bytes (length f.body) =
      form_one f.outer (bytes_left f.form _ (body_bytes p is by f)) below (omega arith) in
      rw (items, ← form) (sym f.whole)

-- sending on saves no byte only where it changes nothing
pub canonical_same : (p : List ℕ) (is : List Item) → Bytes p → structure p ≡ given is → length (canonical p) ≡ length p → canonical p ≡ p
unfolding encode
canonical_same p is by e l =
    let f = structure_formed p is by e in
    let c = canonical_is p is by e in
    c ∙ (ap summed (unsummed_same p is by f (sym (ap length c) ∙ l)) ∙ summed_same p is by f)

-- a length in its shortest form: no more bytes stand before the value than need be
pub record ShortItem (i : Item) : Type 0 where
  pub head : i.place ≡ i.start + short_head i.piece

-- all lengths of a packet
pub record Shortest (p : List ℕ) (is : List Item) : Type 0 where
  pub outer : start_of 0 is ≡ 16 + length (length_bytes (length p - start_of 0 is))
  pub each : Each ShortItem is

short_length : {at : ℕ} {l : List ℕ} {is : List Item} → ItemsOf at l is → Each ShortItem is → length (items_bytes (pieces is)) ≡ length l
unfolding items_bytes
short_length no_more s = refl
short_length (another {is} c form rest some small f i) s =
    omega (arith, short_length i s.1, s.0.head, piece_length c form rest, length-append (item_bytes c) (items_bytes (pieces is)), length_item c)

items_start : {at : ℕ} {l : List ℕ} {is : List Item} → ItemsOf at l is → 0 < length is → start_of 0 is ≡ at
items_start no_more h = absurd (omega arith)
items_start (another c form rest some small f i) h = refl

-- where all lengths are in their shortest form, the packet is sent on as it is
pub shortest_same : (p : List ℕ) (is : List Item) → Bytes p → structure p ≡ given is → Shortest p is → canonical p ≡ p
shortest_same p is by e s =
    let f = structure_formed p is by e in
    let at : ℕ = 16 + length f.form in
    let start : start_of 0 is ≡ at = items_start f.items (omega (arith, ap length f.begins)) in
    let size = formed_length p is f in
    let items = short_length f.items s.each in
    let rest : length p - start_of 0 is ≡ length (items_bytes (pieces is)) = omega arith in
    let outer = rw rest at s.outer in
    canonical_same p is by e (ap length (canonical_is p is by e) ∙ omega (arith, length_encode (pieces is)))
