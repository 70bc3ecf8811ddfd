-- Where the items of a packet begin, by the tests of the code.
-- Assumes nothing.
use Prim.Native.Nat.{ℕ, ◌+◌, ◌<◌, ◌≤◌}
use native.Mathlib.Omega.{arith}
use mathlib.Core.Path.{◌≡◌, sym, ◌∙◌}
use mathlib.Core.Bool.{true, false}
use mathlib.Core.List.{List}
use lib.Dec.{ltb, eqb}
use lib.ListN.{length, take, drop}
use borrow.Author.Tests.{lt-ltb, le-ltb, ltb-false, eqb-true}
use Rattle.base.proofs.Cases.{by_lt, clash}
use Rattle.refusal.specs.Answer.{given, refused}
use Rattle.refusal.proofs.Answers.{not_given, given_same, passed, missed}
use Rattle.ber.specs.Read.{Read, got, broken, read_length}
use Rattle.packet.specs.Structure.{key, same, outer_by, frame}
use Rattle.packet.proofs.Keys.{no_key}

module _ (p : List ℕ) where
  pub too_long : 8192 < length p → frame p ≡ refused 3 0 0
  unfolding frame
  too_long h = rw (lt-ltb 8192 (length p) h)

  module _ (h : length p ≤ 8192) where
    pub other_key : same (take 16 p) key ≡ false → frame p ≡ refused 4 0 0
    unfolding frame
    other_key e = rw (le-ltb 8192 (length p) h, e)

    pub by_outer : same (take 16 p) key ≡ true → frame p ≡ outer_by p (read_length (drop 16 p))
    unfolding frame
    by_outer e = rw (le-ltb 8192 (length p) h, e)

  -- a right frame: the key, and the items within the packet
  pub record Framed (from : ℕ) : Type 0 where
    pub some : 16 ≤ length p
    pub short : length p ≤ 8192
    pub inside : from ≤ length p

  outer_given : (from : ℕ) (r : Read) → outer_by p r ≡ given from → from ≤ length p
  outer_given from broken e = not_given e
  outer_given from (got n s) e =
      let a = passed (eqb (length p) (16 + s + n)) (given (16 + s)) 5 16 0 e in
      let f : 16 + s ≡ from = given_same a.1 in
      omega (arith, eqb-true (length p) (16 + s + n) a.0, f)

  pub framed_given : (from : ℕ) → frame p ≡ given from → Framed from
  unfolding frame
  framed_given from e =
      let a = missed (ltb 8192 (length p)) _ 3 0 0 e in
      let b = passed (same (take 16 p) key) _ 4 0 0 a.1 in
      record {
        some = by_lt (length p) 16 (λ h. clash (sym b.0 ∙ sym (no_key p h))) (λ h. h);
        short = ltb-false _ _ a.0;
        inside = outer_given from (read_length (drop 16 p)) b.1;
      }
