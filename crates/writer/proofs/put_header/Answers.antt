-- `writer::put_header` meets its contract.
use native.Mathlib.Omega.{arith}
use Prim.Native.Nat.{ℕ, ◌+◌, ◌<◌, ◌≤◌}
use mathlib.Core.Path.{◌≡◌, sym}
use mathlib.Core.List.{List, [], ◌∷◌, ◌++◌}
use lib.ListN.{length, length-set}
use Rattle.base.specs.Putting.{Puts, Room, Wrote}
use Rattle.base.proofs.Putting.{room_of, room_first, room_after, puts_wrote, wrote_then, wrote_as}
use Rattle.ber.specs.Written.{tag_bytes, length_bytes}
use Rattle.ber.proofs.Forms.{tag_one, length_one}
use Rattle.writer.proofs.Pieces.{two_wrote}
use Rattle.writer.proofs.put_header.Goals as goal

-- a byte each
module _ {tag size : ℕ} (some : 0 < tag) (t : tag < 128) (s : size < 128) where
  short : tag_bytes tag ++ length_bytes size ≡ tag ∷ size ∷ []
  short = rw (tag_one _ some t, length_one _ s)

  short_fits : {o : List ℕ} {at : ℕ} → Room o at (tag_bytes tag ++ length_bytes size) → at + 2 ≤ length o
  short_fits h = (room_of (sym short) h).fits

pub bounds-out-at : goal.bounds-out-at
bounds-out-at c = omega (arith, short_fits c.requires.0 c.if-tag-lt128.true c.if-size-lt128.true c.requires.1)

pub bounds-out-at-then-size-lt128 : goal.bounds-out-at-then-size-lt128
bounds-out-at-then-size-lt128 c =
    simp length-set (omega (arith, short_fits c.requires.0 c.if-tag-lt128.true c.if-size-lt128.true c.requires.1))

pub returns-then-size-lt128 : goal.returns-then-size-lt128
returns-then-size-lt128 c =
    wrote_as (sym (short c.requires.0 c.if-tag-lt128.true c.if-size-lt128.true))
    (two_wrote _ _ _ _ (short_fits c.requires.0 c.if-tag-lt128.true c.if-size-lt128.true c.requires.1))

pub overflow_add-after : goal.overflow_add-after
overflow_add-after c = omega (arith, (puts_wrote (room_first _ c.requires.1) c.put_tag.ensures).inside, c.well_formed)

-- more, one after the other
both : {o o₁ o₂ : List ℕ} {at n k : ℕ} {bs cs : List ℕ} → Room o at (bs ++ cs) → Puts o at bs n o₁ → Puts o₁ (at + n) cs k o₂
    → Wrote o at (bs ++ cs) (at + n + k) o₂
both h p q = let w = puts_wrote (room_first _ h) p in wrote_then w (puts_wrote (room_after w h) q)

pub overflow_add-result-2 : goal.overflow_add-result-2
overflow_add-result-2 c = omega (arith, (both c.requires.1 c.put_tag.ensures c.put_length.ensures).inside, c.well_formed)

pub returns : goal.returns
returns c = both c.requires.1 c.put_tag.ensures c.put_length.ensures
