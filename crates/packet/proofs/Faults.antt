-- What is wrong with an item, as the code finds it.
-- Assumes nothing.
use Prim.Native.Nat.{ℕ, ◌+◌, ◌*◌, ◌%◌, ◌^◌, ◌<◌, ◌≤◌}
use native.Mathlib.Omega.{arith}
use native.Mathlib.Nat.{mod-eq_of_lt}
use lib.Pow.{pow_mono}
use mathlib.Core.Path.{◌≡◌, ap₂, ◌∙◌}
use mathlib.Core.Bool.{Bool, true, false}
use mathlib.Core.List.{List}
use lib.ListN.{length, take, drop, length-take, length-drop}
use Rattle.base.proofs.Cases.{by_bool}
use Rattle.number.specs.Stored.{Bytes, value_of}
use Rattle.number.proofs.Laws.{bytes_take, bytes_drop, value_small, bits_bytes}
use Rattle.tagset.specs.Sets.{holds}
use Rattle.tagset.specs.declared.TagSet.{TagSet}
use Rattle.catalogue.specs.Shapes.{shape_of, size_allowed, codes_limited}
use Rattle.catalogue.specs.declared.Shape.{Shape}
use Rattle.catalogue.proofs.Columns.{codes_free, limited_few}
use Rattle.packet.specs.Pieces.{Item}
use Rattle.packet.specs.Judge.{Fault, clean, fault_by, looked, fault_of}
use Rattle.packet.specs.code.Headers.{item_by}
use Rattle.packet.specs.declared.Header.{Header}

-- a value of another length is wrong whatever its code, and the items whose codes are limited have at most eight bytes
pub wraps_not : (n x : ℕ) → x < 256 ^ n → n ≤ 8 → x % 2 ^ 64 ≡ x
wraps_not n x fits h = let p : 2 ^ (8 * n) ≤ 2 ^ 64 = pow_mono {i = 8 * n} {j = 64} (omega arith) in mod-eq_of_lt (omega (arith, fits, bits_bytes n))

module _ (n x : ℕ) (twice : Bool) (fits : x < 256 ^ n) where
  limited : (t : ℕ) → codes_limited t ≡ true → fault_by (looked t n (x % 2 ^ 64) twice) ≡ fault_by (looked t n x twice)
  limited t l = by_bool (size_allowed t (shape_of t) n) (λ a. rw (wraps_not n x fits (limited_few t n l a))) (λ a. rw a)

  pub code_wraps : (t : ℕ) → fault_by (looked t n (x % 2 ^ 64) twice) ≡ fault_by (looked t n x twice)
  code_wraps t = by_bool (codes_limited t) (λ l. limited t l) (λ l. rw (codes_free t n (x % 2 ^ 64) l, codes_free t n x l))

module _ (K seen : TagSet) where
  pub fault_unknown : (i : Item) → holds K i.piece.tag ≡ false → clean ≡ fault_of (holds K) (holds seen) i.piece
  unfolding fault_of
  fault_unknown i e = rw e

  pub fault_known : (p : List ℕ) (h : Header) → Bytes p → h.place + h.size ≤ length p → holds K h.tag ≡ true
      → fault_by (looked h.tag h.size (value_of (take h.size (drop h.place p)) % 2 ^ 64) (holds seen h.tag))
      ≡ fault_of (holds K) (holds seen) (item_by p h).piece
  unfolding fault_of
  fault_known p h by inside e =
      let v : List ℕ = take h.size (drop h.place p) in
      let l : length v ≡ h.size = rw (length-take, length-drop) (omega arith) in
      let small : value_of v < 256 ^ h.size = rw l at (value_small v (bytes_take h.size (drop h.place p) (bytes_drop h.place by))) in
      rw (e, l) (code_wraps h.size (value_of v) (holds seen h.tag) small h.tag)

  -- an item that takes every code: its code does not matter
  pub fault_free : (p : List ℕ) (h : Header) → h.place + h.size ≤ length p → holds K h.tag ≡ true → codes_limited h.tag ≡ false
      → fault_by (looked h.tag h.size 0 (holds seen h.tag)) ≡ fault_of (holds K) (holds seen) (item_by p h).piece
  unfolding fault_of
  fault_free p h inside e free =
      let l : length (take h.size (drop h.place p)) ≡ h.size = rw (length-take, length-drop) (omega arith) in
      rw (e, l, codes_free h.tag h.size 0 free, codes_free h.tag h.size (value_of (take h.size (drop h.place p))) free)

-- a fault found by the column's shape and the tags seen
pub fault_told : {f : Fault} {s : Shape} {twice twice' : Bool} (t n code : ℕ)
    → f ≡ fault_by (record { shape = s; tag = t; size = n; code = code; twice = twice }) → s ≡ shape_of t → twice ≡ twice'
    → f ≡ fault_by (looked t n code twice')
fault_told t n code e a b =
    e ∙ ap₂ (λ s twice. fault_by (record { shape = s; tag = t; size = n; code = code; twice = twice })) a b
