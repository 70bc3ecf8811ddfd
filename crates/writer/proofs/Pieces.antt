-- Pieces put one after another: a piece's tag, length and value, and the pieces that are left.
-- Assumes nothing.
use Prim.Native.Nat.{ℕ, ◌+◌, ◌≤◌}
use native.Mathlib.Omega.{arith}
use mathlib.Core.Path.{◌≡◌, refl, ap, sym, ◌∙◌}
use mathlib.Core.List.{List, [], ◌∷◌, ◌++◌, append_assoc}
use lib.ListN.{length, set}
use Rattle.base.specs.Putting.{Puts, Room, Wrote}
use Rattle.base.proofs.Putting.{put_one, put_next, all_wrote}
use Rattle.base.proofs.Putting.{puts_wrote, wrote_length, wrote_room, room_first, room_after, room_of, wrote_then, wrote_rest, wrote_as}
use Rattle.ber.specs.Written.{tag_bytes, length_bytes}
use Rattle.packet.specs.Pieces.{Piece}
use Rattle.packet.specs.Encode.{item_bytes, items_bytes}

-- two bytes, one after the other
pub two_wrote : (o : List ℕ) (at a b : ℕ) → at + 2 ≤ length o → Wrote o at (a ∷ b ∷ []) (at + 2) (set (set o at a) (at + 1) b)
two_wrote o at a b h =
    all_wrote o at 2 (a ∷ b ∷ []) refl h _ (ap (λ l. set l (at + 1) b) (put_one o at a (omega arith)) ∙ put_next o at (a ∷ []) b (omega arith))

-- tag, length and value
module _ {o : List ℕ} {at : ℕ} (c : Piece) {size : ℕ} (e : length c.value ≡ size) (h : Room o at (item_bytes c)) where
  parts : tag_bytes c.tag ++ (length_bytes size ++ c.value) ≡ item_bytes c
  unfolding item_bytes
  parts = ap (λ n. tag_bytes c.tag ++ (length_bytes n ++ c.value)) (sym e)

  parts_room : Room o at (tag_bytes c.tag ++ (length_bytes size ++ c.value))
  parts_room = room_of parts h

  -- tag and length at once, and then the value
  header : tag_bytes c.tag ++ length_bytes size ++ c.value ≡ item_bytes c
  header = append_assoc (tag_bytes c.tag) (length_bytes size) c.value ∙ parts

  pub header_room : Room o at (tag_bytes c.tag ++ length_bytes size)
  header_room = room_first c.value (room_of header h)

  module _ {place : ℕ} {o₁ : List ℕ} (w : Wrote o at (tag_bytes c.tag ++ length_bytes size) place o₁) where
    pub room_behind : place + size ≤ length o₁
    room_behind = omega (arith, (room_after w (room_of header h)).fits)

    pub wrote_behind : {m : ℕ} {o₂ : List ℕ} → Wrote o₁ place c.value m o₂ → Wrote o at (item_bytes c) m o₂
    wrote_behind v = wrote_as header (wrote_then w v)

  -- one after the other
  module _ {n : ℕ} {o₁ : List ℕ} (p : Puts o at (tag_bytes c.tag) n o₁) where
    pub tag_wrote : Wrote o at (tag_bytes c.tag) (at + n) o₁
    tag_wrote = puts_wrote (room_first _ parts_room) p

    module _ {k : ℕ} {o₂ : List ℕ} (q : Puts o₁ (at + n) (length_bytes size) k o₂) where
      length_wrote : Wrote o₁ (at + n) (length_bytes size) (at + n + k) o₂
      length_wrote = puts_wrote (room_first _ (room_after tag_wrote parts_room)) q

      pub value_room : Room o₂ (at + n + k) c.value
      value_room = room_after length_wrote (room_after tag_wrote parts_room)

      pub value_fits : at + n + k + size ≤ length o₂
      value_fits = omega (arith, value_room.fits)

      pub item_fits : at + n + k + size ≤ length o
      item_fits = omega (arith, value_fits, wrote_length tag_wrote, wrote_length length_wrote)

      pub item_wrote : {m : ℕ} {o₃ : List ℕ} → Wrote o₂ (at + n + k) c.value m o₃ → Wrote o at (item_bytes c) m o₃
      item_wrote w = wrote_as parts (wrote_then tag_wrote (wrote_then length_wrote w))

-- pieces are left: put at a place, they make the output x
module _ {o : List ℕ} {at end : ℕ} {x : List ℕ} (c : Piece) (cs : List Piece) (l : Wrote o at (items_bytes (c ∷ cs)) end x) where
  pub piece_room : Room o at (item_bytes c)
  unfolding items_bytes
  piece_room = room_first (items_bytes cs) (wrote_room l)

  pub piece_put : {at' : ℕ} {o' : List ℕ} → Wrote o at (item_bytes c) at' o' → Wrote o' at' (items_bytes cs) end x
  unfolding items_bytes
  piece_put w = wrote_rest w l
