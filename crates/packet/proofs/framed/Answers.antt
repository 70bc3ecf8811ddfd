-- `packet::framed` meets its contract.
use Prim.Native.Nat.{ℕ, ◌≤◌}
use mathlib.Core.Path.{◌≡◌, sym, ap, ◌∙◌}
use mathlib.Core.Bool.{true}
use mathlib.Core.List.{List}
use native.Mathlib.Omega.{arith}
use lib.ListN.{length, take, drop, length-drop}
use borrow.Author.Tests.{eq-eqb, ne_eqb}
use Rattle.number.specs.Stored.{Bytes}
use Rattle.number.proofs.Laws.{bytes_lent, bytes_drop}
use Rattle.ber.specs.Read.{Read, got, read_length}
use Rattle.ber.proofs.Laws.{LengthRead, length_read}
use Rattle.packet.specs.Structure.{key, same, frame, outer_by}
use Rattle.packet.proofs.Frames.{too_long, other_key, by_outer}
use Rattle.packet.proofs.framed.Goals as goal

-- the frame, and where the length ends, by what the outer length reads as
by_read : (p : List ℕ) (r : Read) → length p ≤ 8192 → same (take 16 p) key ≡ true → r ≡ read_length (drop 16 p) → frame p ≡ outer_by p r
by_read p r short keyed e = by_outer p short keyed ∙ ap (outer_by p) (sym e)

inside : (p : List ℕ) (n k : ℕ) → Bytes p → got n k ≡ read_length (drop 16 p) → LengthRead (drop 16 p) n k
inside p n k by e = length_read _ _ _ (bytes_drop 16 by) (sym e)

pub returns-then-packet-gt8192 : goal.returns-then-packet-gt8192
returns-then-packet-gt8192 c = c.refused.ensures ∙ sym (too_long _ c.if-packet-gt8192.true)

pub returns-in_default : goal.returns-in_default
returns-in_default c =
    c.refused-in_default.ensures
    ∙ sym (by_read _ _ c.if-packet-gt8192.false (sym c.has_key.ensures ∙ c.if-has_key.true) c.in_default.ensures)

pub overflow_add-from : goal.overflow_add-from
overflow_add-from c =
    let l = inside _ _ _ (bytes_lent c.type_inv.packet) c.in-Some.ensures in
    omega (arith, l, length-drop 16 c.args.packet.now)

pub overflow_add-from-then-has_key : goal.overflow_add-from-then-has_key
overflow_add-from-then-has_key c =
    let l = inside _ _ _ (bytes_lent c.type_inv.packet) c.in-Some.ensures in
    omega (arith, l, length-drop 16 c.args.packet.now)

pub returns-then-packet-from : goal.returns-then-packet-from
returns-then-packet-from c =
    sym (by_read _ _ c.if-packet-gt8192.false (sym c.has_key.ensures ∙ c.if-has_key.true) c.in-Some.ensures
    ∙ rw (eq-eqb _ _ c.if-packet-from.true))

pub returns-then-has_key : goal.returns-then-has_key
returns-then-has_key c =
    c.refused-then-has_key.ensures
    ∙ sym (by_read _ _ c.if-packet-gt8192.false (sym c.has_key.ensures ∙ c.if-has_key.true) c.in-Some.ensures
    ∙ rw (ne_eqb _ _ c.if-packet-from.false))

pub returns : goal.returns
returns c = c.refused-2.ensures ∙ sym (other_key _ c.if-packet-gt8192.false (sym c.has_key.ensures ∙ c.if-has_key.false))
