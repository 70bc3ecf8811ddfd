-- A packet put anew: the key from the packet, the length, the items, and the checksum.
-- Assumes nothing.
use Prim.Native.Nat.{ℕ, ◌+◌, ◌-◌, ◌≤◌}
use native.Mathlib.Omega.{arith}
use mathlib.Core.Path.{◌≡◌, ap, ◌∙◌}
use mathlib.Core.List.{List, ◌++◌}
use lib.ListN.{length, take}
use lib.Seq.{take_at}
use borrow.Rule.Slice.PartMut.{mid_of, put_mid}
use Rattle.base.specs.Putting.{Puts, Room, Wrote}
use Rattle.base.proofs.Putting.{puts_as, room_first}
use Rattle.number.specs.Stored.{Bytes, bytes_of}
use Rattle.ber.specs.Written.{length_bytes}
use Rattle.ber.proofs.Putting.{number_wrote}
use Rattle.checksum.specs.Sum.{checksum_of}
use Rattle.packet.specs.Pieces.{Piece}
use Rattle.packet.specs.Structure.{key, structure}
use Rattle.packet.specs.Encode.{pieces_in, canonical}
use Rattle.packet.specs.Allowed.{Formed}
use Rattle.laws.proofs.Structure.{length_key, structure_formed, formed_length}
use Rattle.writer.proofs.Whole.{head_put, head_room, items_room, sum_room, packet_put}
use Rattle.packet.specs.Structure.{ItemsFrom}
use Rattle.relay.specs.code.Sends.{items_for, Sendable}
use Rattle.relay.proofs.Items.{canonical_size}

module _ {p : List ℕ} {from : ℕ} (f : ItemsFrom p from) (by : Bytes p) where
  formed : Formed p f.items
  formed = structure_formed p f.items by f.found

  pub key_inside : 16 ≤ length p
  key_inside = omega (arith, formed_length p f.items formed)

  key_first : take 16 p ≡ key
  key_first = ap (take 16) formed.whole ∙ take_at key (formed.form ++ formed.body) 16 length_key

  key_put : {o : List ℕ} {n : ℕ} {o₁ : List ℕ} → Room o 0 key → Puts o 0 (take 16 p) n o₁ → Wrote o 0 key 16 o₁
  key_put {n = n} h k =
      let w = puts_as key_first h k in
      let e : 0 + n ≡ 16 = omega (arith, w.after, length_key) in
      rw e at w

-- the two bytes at the end
two_put : (o : List ℕ) (at end x : ℕ) (filled : List ℕ) → end ≡ at + 2 → at + 2 ≤ length o → filled ≡ bytes_of (length (mid_of at (end - at) o)) x
    → Wrote o at (bytes_of 2 x) (at + 2) (put_mid at (end - at) o filled)
two_put o at end x filled e h g = let k : end - at ≡ at + 2 - at = omega arith in rw k (number_wrote o at 2 x h filled (rw k at g))

module _ {p : List ℕ} {from size items room : ℕ} (s : Sendable p from size items room) where
  pub sizes : size ≡ 16 + length (length_bytes items) + items
  sizes = s.whole ∙ rw s.part (canonical_size p)

  abbrev cs : List Piece
  cs = pieces_in (structure p)

  module _ (by : Bytes p) {o : List ℕ} (lent : length o ≡ room) {n : ℕ} {o₁ : List ℕ} (k : Puts o 0 (take 16 p) n o₁)
      {m : ℕ} {o₂ : List ℕ} (q : Puts o₁ 16 (length_bytes items) m o₂) where
    fits : size ≤ length o
    fits = rw lent s.fits

    pub head : Wrote o 0 (key ++ length_bytes items) (16 + m) o₂
    unfolding canonical
    head =
        let h = head_room cs s.whole s.part fits in
        head_put h (key_put s.walks by (room_first (length_bytes items) h) k) q

    pub items_fit : Room o₂ (16 + m) (items_for p)
    unfolding canonical
    items_fit = items_room cs s.whole s.part fits head

    module _ {end : ℕ} {o₃ : List ℕ} (r : Wrote o₂ (16 + m) (items_for p) end o₃) where
      pub sum_fits : size - 2 + 2 ≤ length o₃
      unfolding canonical
      sum_fits = sum_room cs s.whole s.part fits head r

      pub anew_put : {sum : ℕ} {filled : List ℕ} → sum ≡ checksum_of (take (size - 2) o₃)
          → filled ≡ bytes_of (length (mid_of (size - 2) (size - (size - 2)) o₃)) sum
          → Wrote o 0 (canonical p) size (put_mid (size - 2) (size - (size - 2)) o₃ filled)
      unfolding canonical
      anew_put {sum} {filled} c g =
          packet_put cs s.whole s.part fits head r c (two_put o₃ (size - 2) size sum filled (omega (arith, sizes)) sum_fits g)
