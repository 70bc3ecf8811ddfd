-- The first and the last item and the checksum, by the tests of the code.
-- Assumes nothing.
use Prim.Native.Nat.{ℕ, ◌+◌, ◌-◌, ◌%◌, ◌^◌, ◌<◌, ◌≤◌}
use native.Mathlib.Omega.{arith}
use mathlib.Core.Path.{◌≡◌}
use mathlib.Core.Bool.{cond, ◌&&◌}
use mathlib.Core.List.{List}
use lib.Dec.{eqb}
use lib.ListN.{length, take, drop, length-take, length-drop}
use borrow.Author.Tests.{eqb-true, eq-eqb}
use Rattle.base.proofs.Every.{both_left, both_right}
use Rattle.refusal.specs.Answer.{given, refused}
use Rattle.refusal.proofs.Answers.{passed}
use Rattle.number.specs.Stored.{Bytes, value_of}
use Rattle.number.proofs.Laws.{bytes_take, bytes_drop, value_small}
use Rattle.packet.specs.Ends.{right_ends}
use Rattle.packet.specs.Structure.{right_sum}
use Rattle.packet.specs.code.Concluded.{ends_by, summed_at, closed_by}
use Rattle.packet.specs.declared.Ends.{Ends}
use Rattle.packet.specs.declared.Header.{Header}

-- what right ends are
pub record RightEnds (e : Ends) : Type 0 where
  pub time : e.first ≡ 2
  pub checksum : e.last ≡ 1
  pub pair : e.size ≡ 2

pub ends_right : (e : Ends) → right_ends e ≡ given tt → RightEnds e
unfolding right_ends
ends_right e r =
    let a = passed (eqb e.first 2) _ 9 e.start e.first r in
    let b = passed (eqb e.last 1 && eqb e.size 2) (given tt) 10 e.end e.last a.1 in
    record {
      time = eqb-true _ _ a.0;
      checksum = eqb-true _ _ (both_left (eqb e.last 1) _ b.0);
      pair = eqb-true _ _ (both_right (eqb e.last 1) _ b.0);
    }

pub right-ends : (e : Ends) → RightEnds e → right_ends e ≡ given tt
unfolding right_ends
right-ends e r = rw (eq-eqb _ _ r.time, eq-eqb _ _ r.checksum, eq-eqb _ _ r.pair)

-- two bytes as the code reads them
pub two-bytes : (p : List ℕ) (place : ℕ) → Bytes p → place + 2 ≤ length p → (v : ℕ)
    → v ≡ value_of (take (place + 2 - place) (drop place p)) % 2 ^ 64 → v ≡ value_of (take 2 (drop place p))
two-bytes p place by inside v e =
    let l : List ℕ = take 2 (drop place p) in
    let k : place + 2 - place ≡ 2 = omega arith in
    let n : length l ≡ 2 = rw (length-take, length-drop) (omega arith) in
    let small : value_of l < 256 ^ 2 = rw n at (value_small l (bytes_take 2 (drop place p) (bytes_drop place by))) in
    let f : v ≡ value_of l % 2 ^ 64 = rw k at e in
    omega arith

-- first, last and sum, once first and last are right
module _ (p : List ℕ) (from : ℕ) (z : Header) where
  pub closed_ends : (n a t : ℕ) → right_ends (ends_by p from z) ≡ refused n a t → closed_by p from z ≡ refused n a t
  unfolding closed_by
  closed_ends n a t e = rw e

  pub closed_sum : right_ends (ends_by p from z) ≡ given tt → closed_by p from z ≡ cond (summed_at p z.place) (given tt) (refused 11 z.place 1)
  unfolding closed_by right_sum
  closed_sum e = rw (e, (ends_right (ends_by p from z) e).pair)
