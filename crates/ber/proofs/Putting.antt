-- The lowest bytes of a number put at a place, with and without room for them.
-- Assumes nothing.
use Prim.Native.Nat.{ℕ, ◌+◌, ◌-◌, ◌<◌, ◌≤◌}
use mathlib.Core.Path.{◌≡◌, ap, ◌∙◌}
use mathlib.Core.List.{List}
use lib.ListN.{length}
use borrow.Rule.Slice.PartMut.{mid_of, put_mid}
use Rattle.base.specs.Putting.{Puts, Wrote, put_into}
use Rattle.base.proofs.Putting.{part-length, part_put, no_room, all_put, all_wrote}
use Rattle.number.specs.Stored.{bytes_of}
use Rattle.number.proofs.Laws.{length_bytes_of}

module _ (o : List ℕ) (at n x : ℕ) where
  pub number_without_room : length o < at + n → Puts o at (bytes_of n x) 0 o
  number_without_room = no_room o at n (bytes_of n x) (length_bytes_of n x)

  -- a part of the list is lent and filled
  module _ (h : at + n ≤ length o) (filled : List ℕ) (e : filled ≡ bytes_of (length (mid_of at (at + n - at) o)) x) where
    number_put : put_mid at (at + n - at) o filled ≡ put_into o at (bytes_of n x)
    number_put =
        let f : filled ≡ bytes_of n x = e ∙ ap (λ k. bytes_of k x) (part-length o at n h) in
        ap (put_mid at (at + n - at) o) f ∙ part_put o at n h (bytes_of n x) (length_bytes_of n x)

    pub number_puts : Puts o at (bytes_of n x) n (put_mid at (at + n - at) o filled)
    number_puts = all_put o at n (bytes_of n x) (length_bytes_of n x) h _ number_put

    pub number_wrote : Wrote o at (bytes_of n x) (at + n) (put_mid at (at + n - at) o filled)
    number_wrote = all_wrote o at n (bytes_of n x) (length_bytes_of n x) h _ number_put
