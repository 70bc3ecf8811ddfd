-- A packet put: key and length, items, checksum.
-- Assumes nothing.
use Prim.Native.Nat.{ℕ, ◌+◌, ◌-◌, ◌≤◌}
use native.Mathlib.Omega.{arith}
use mathlib.Core.Path.{◌≡◌, refl, ap, ap₂, sym, ◌∙◌}
use mathlib.Core.List.{List, ◌++◌, append_assoc}
use lib.ListN.{length, take, drop, length-append}
use lib.Seq.{take-append-le}
use Rattle.base.specs.Putting.{Puts, Room, Wrote}
use Rattle.base.proofs.Putting.{puts_wrote, wrote_length, wrote_then, wrote_as, wrote_over, put_front}
use Rattle.base.proofs.Putting.{front_room, room_of, room_first, room_after}
use Rattle.number.specs.Stored.{bytes_of}
use Rattle.number.proofs.Laws.{length_bytes_of}
use Rattle.ber.specs.Written.{length_bytes}
use Rattle.checksum.specs.Sum.{checksum_of}
use Rattle.packet.specs.Pieces.{Piece}
use Rattle.packet.specs.Structure.{key}
use Rattle.packet.specs.Encode.{items_bytes, unsummed, before_sum, summed, encode}
use Rattle.laws.proofs.Structure.{length_key}
use Rattle.laws.proofs.Written.{length_encode}

-- the key, as two numbers
abbrev pub key_high : ℕ
key_high = 0x060E2B34020B0101

abbrev pub key_low : ℕ
key_low = 0x0E01030101000000

key_bytes : bytes_of 8 key_high ++ bytes_of 8 key_low ≡ key
unfolding key bytes_of
key_bytes = refl

pub key_put : {o o₁ o₂ : List ℕ} → Wrote o 0 (bytes_of 8 key_high) 8 o₁ → Wrote o₁ 8 (bytes_of 8 key_low) 16 o₂ → Wrote o 0 key 16 o₂
key_put w v = wrote_as key_bytes (wrote_then w v)

pub key_fits : {o : List ℕ} (bs : List ℕ) → Room o 0 (key ++ bs) → 16 ≤ length o
key_fits bs h = omega (arith, h.fits, length-append key bs, length_key)

-- the length after the key
pub head_put : {o bs o₁ : List ℕ} {k : ℕ} {o₂ : List ℕ} → Room o 0 (key ++ bs) → Wrote o 0 key 16 o₁ → Puts o₁ 16 bs k o₂
    → Wrote o 0 (key ++ bs) (16 + k) o₂
head_put h w p = wrote_then w (puts_wrote (room_after w h) p)

-- pieces that make a packet of so many bytes, n of them the items'
module _ (cs : List Piece) {size n : ℕ} (e : size ≡ length (encode cs)) (part : n ≡ length (items_bytes cs)) where
  pub sizes : size ≡ 16 + length (length_bytes n) + length (items_bytes cs)
  sizes = e ∙ rw part (length_encode cs)

  parts : key ++ length_bytes n ++ items_bytes cs ≡ unsummed cs
  unfolding unsummed
  parts = append_assoc key (length_bytes n) (items_bytes cs) ∙ ap (λ m. key ++ (length_bytes m ++ items_bytes cs)) part

  long : length (unsummed cs) ≡ size
  long = ap length (sym parts) ∙ rw (length-append, length-append, length_key) (omega (arith, sizes))

  -- where there is room for it
  module _ {o : List ℕ} (h : size ≤ length o) where
    parts_room : Room o 0 (key ++ length_bytes n ++ items_bytes cs)
    parts_room = room_of parts (front_room (sym long) h)

    pub head_room : Room o 0 (key ++ length_bytes n)
    head_room = room_first (items_bytes cs) parts_room

    module _ {from : ℕ} {o₁ : List ℕ} (p : Wrote o 0 (key ++ length_bytes n) from o₁) where
      pub items_room : Room o₁ from (items_bytes cs)
      items_room = room_after p parts_room

      module _ {end : ℕ} {o₂ : List ℕ} (q : Wrote o₁ from (items_bytes cs) end o₂) where
        all_put : Wrote o 0 (unsummed cs) end o₂
        all_put = wrote_as parts (wrote_then p q)

        pub sum_room : size - 2 + 2 ≤ length o₂
        sum_room = omega (arith, wrote_length all_put, sizes)

        before_is : take (size - 2) o₂ ≡ before_sum (unsummed cs)
        before_is =
            ap (take (size - 2)) (all_put.output ∙ put_front o (unsummed cs) (omega (arith, long)))
            ∙ (take-append-le (size - 2) (unsummed cs) (drop (length (unsummed cs)) o) (omega (arith, long))
            ∙ ap (λ m. take (m - 2) (unsummed cs)) (sym long))

        pub packet_put : {sum : ℕ} {o₃ : List ℕ} → sum ≡ checksum_of (take (size - 2) o₂) → Wrote o₂ (size - 2) (bytes_of 2 sum) (size - 2 + 2) o₃
            → Wrote o 0 (encode cs) size o₃
        unfolding encode summed
        packet_put {sum} s w =
            let two : length (unsummed cs) ≡ size - 2 + length (bytes_of 2 sum) = omega (arith, length_bytes_of 2 sum, long, sizes) in
            let end : size - 2 + 2 ≡ size = omega (arith, sizes) in
            let over = wrote_over (size - 2) (omega arith) two all_put (rw end at w) in
            let last : take (size - 2) (unsummed cs) ≡ before_sum (unsummed cs) = ap (λ m. take (m - 2) (unsummed cs)) (sym long) in
            wrote_as (ap₂ (λ x y. x ++ bytes_of 2 y) last (s ∙ ap checksum_of before_is)) over
