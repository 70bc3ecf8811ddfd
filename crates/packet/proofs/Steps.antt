-- The item at a place, by what its tag and its length read as.
-- Assumes nothing.
use Prim.Native.Nat.{ℕ, ◌+◌, ◌-◌, ◌^◌, ◌<◌, ◌≤◌}
use native.Mathlib.Omega.{arith}
use native.Mathlib.Nat.{add_assoc}
use mathlib.Core.Path.{◌≡◌, ap, ◌∙◌}
use mathlib.Core.Bool.{true}
use mathlib.Core.List.{List}
use lib.ListN.{length, get_or, drop, length-drop}
use lib.Dec.{ltb}
use lib.Seq.{drop-drop}
use borrow.Author.Tests.{le-leb, lt-leb}
use Rattle.base.proofs.Parts.{byte_at}
use Rattle.base.proofs.Every.{both_left, both_right}
use Rattle.refusal.specs.Answer.{given, refused}
use Rattle.number.specs.Stored.{Bytes}
use Rattle.number.proofs.Laws.{bytes_drop}
use Rattle.ber.specs.Read.{got, broken, read_tag, read_length}
use Rattle.ber.proofs.Laws.{TagRead, tag_read, LengthRead, length_read}
use Rattle.packet.specs.Pieces.{read_item, after_length}
use Rattle.packet.specs.Said.{header_at, header_by}
use Rattle.packet.specs.code.Headers.{short_forms}

module _ (p : List ℕ) (at : ℕ) where
  pub no-tag : read_tag (drop at p) ≡ broken → header_at p at ≡ refused 7 at 0
  unfolding header_at read_item
  no-tag e = rw e

  module _ (t s : ℕ) (tag : read_tag (drop at p) ≡ got t s) where
    pub tag_inside : Bytes p → (0 < s) × (at + s ≤ length p)
    tag_inside by =
        let r : TagRead (drop at p) t s = tag_read (drop at p) t s (bytes_drop at by) tag in
        let i : s ≤ length p - at = rw length-drop at r.inside in
        (r.takes, omega (arith, r.takes))

    after-tag : read_length (drop s (drop at p)) ≡ read_length (drop (at + s) p)
    after-tag = ap read_length (drop-drop s at p)

    pub no-length : read_length (drop (at + s) p) ≡ broken → header_at p at ≡ refused 8 at t
    unfolding header_at read_item
    no-length e = rw (tag, after-tag, e)

    module _ (n k : ℕ) (size : read_length (drop (at + s) p) ≡ got n k) where
      pub length_inside : Bytes p → (n < 2 ^ 32) × (at + s + k ≤ length p)
      length_inside by =
          let r : LengthRead (drop (at + s) p) n k = length_read (drop (at + s) p) n k (bytes_drop (at + s) by) size in
          let i : k ≤ length p - (at + s) = rw length-drop at r.inside in
          (r.small, omega (arith, r.some))

      by_size : header_at p at ≡ header_by at (after_length (length p - at) t s (got n k))
      unfolding header_at read_item
      by_size = rw (tag, after-tag, size, length-drop)

      pub past_the_end : at + s + k ≤ length p → length p - (at + s + k) < n → header_at p at ≡ refused 8 at t
      past_the_end h short = by_size ∙ rw (lt-leb (s + k + n) (length p - at) (omega arith))

      pub one_item : at + s + k ≤ length p → n ≤ length p - (at + s + k) → header_at p at ≡ given (record { tag = t; start = at; place = at + s + k; size = n })
      one_item h enough = by_size ∙ rw (le-leb (s + k + n) (length p - at) (omega arith), add_assoc at s k)

-- a tag and a length of one byte each, which stand at a place and the next
module _ (p : List ℕ) (at t n : ℕ) (tag : t ≡ get_or p at 0) (size : n ≡ get_or p (at + 1) 0) (inside : at ≤ length p - 2) (two : 2 ≤ length p)
    (short : short_forms t n ≡ true) where
  plain_tag : read_tag (drop at p) ≡ got t 1
  unfolding read_tag short_forms
  plain_tag =
      rw (byte_at p at tag (omega arith), both_left (ltb 0 t) _ short, both_left (ltb t 128) _ (both_right (ltb 0 t) _ short))

  plain_length : read_length (drop (at + 1) p) ≡ got n 1
  unfolding read_length short_forms
  plain_length = rw (byte_at p (at + 1) size (omega arith), both_right (ltb t 128) _ (both_right (ltb 0 t) _ short))

  pub short_past_the_end : length p < at + 1 + 1 + n → header_at p at ≡ refused 8 at t
  short_past_the_end h = past_the_end p at t 1 plain_tag n 1 plain_length (omega arith) (omega arith)

  pub short_item : at + 1 + 1 + n ≤ length p → header_at p at ≡ given (record { tag = t; start = at; place = at + 1 + 1; size = n })
  short_item h = one_item p at t 1 plain_tag n 1 plain_length (omega arith) (omega arith)
