-- `reader::row_of` meets its contract.
use Prim.Native.Nat.{ℕ, ◌+◌, ◌-◌, ◌*◌, ◌/◌, ◌%◌, ◌^◌, ◌≤◌}
use mathlib.Core.Path.{◌≡◌, sym, ap, ap₂, ◌∙◌}
use mathlib.Core.List.{List}
use lib.Bits.{bit_and}
use lib.ListN.{length, take, drop}
use Rattle.number.specs.Stored.{Bytes, value_of}
use Rattle.number.proofs.Laws.{bytes_lent}
use Rattle.tagset.specs.Sets.{holds}
use Rattle.catalogue.specs.code.Column.{shape_byte}
use Rattle.catalogue.specs.declared.Shape.{Shape}
use Rattle.packet.specs.code.Headers.{item_by}
use Rattle.packet.specs.Rows.{shape_for, row_of}
use Rattle.packet.specs.declared.Header.{Header}
use Rattle.reader.specs.code.Filling.{Narrow, top_of, kind_by}
use Rattle.reader.proofs.Laws.{value_length}
use Rattle.reader.proofs.Codes.{value_last, Tells, tells}
use Rattle.reader.proofs.row_of.Goals as goal

-- what the eight bytes that end with an item's value tell
told : {p : List ℕ} {s : Shape} {word : ℕ} → Bytes p → (i : Header) → i.place + i.size ≤ length p → Narrow s i.size → 8 ≤ i.place + i.size
    → word ≡ value_of (take (i.place + i.size - (i.place + i.size - 8)) (drop (i.place + i.size - 8) p)) % 2 ^ 64
    → Tells s (item_by p i).piece.value word
told {p} by i inside narrow behind last =
    let size = value_length p by i inside in
    tells _ _ _ (rw size narrow) (λ few. ap (λ x. x % 256 ^ length (item_by p i).piece.value) last
    ∙ (value_last p (i.place + i.size) i.place _ by (ap (λ m. i.place + m) size) few behind inside
    ∙ ap (λ m. value_of (take m (drop i.place p))) size))

pub topmost-top-requires : goal.topmost-top-requires
topmost-top-requires c =
    let by = bytes_lent c.type_inv.packet in
    rw (c.byte_for-byte.ensures, ← value_length _ by c.args.item c.requires.0)
    (told by c.args.item c.requires.0 c.requires.2 c.requires.3 c.value.ensures).few

pub kind_by-requires : goal.kind_by-requires
kind_by-requires c =
    rw c.byte_for-byte.ensures (told (bytes_lent c.type_inv.packet) c.args.item c.requires.0 c.requires.2 c.requires.3 c.value.ensures).small

pub lowest-requires : goal.lowest-requires
lowest-requires c =
    let by = bytes_lent c.type_inv.packet in
    rw (c.byte_for-byte.ensures, ← value_length _ by c.args.item c.requires.0)
    (told by c.args.item c.requires.0 c.requires.2 c.requires.3 c.value.ensures).few

pub returns : goal.returns
unfolding row_of
returns c =
    let by = bytes_lent c.type_inv.packet in
    let i = c.args.item in
    let size = value_length _ by i c.requires.0 in
    let tells = told by i c.requires.0 c.requires.2 c.requires.3 c.value.ensures in
    let shape = shape_byte (shape_for (holds c.args.known) i.tag) in
    let n = length (item_by c.args.packet.now i).piece.value in
    let byte = c.byte_for-byte.ensures in
    let width = ap (λ b. bit_and i.size (b % 16)) byte ∙ ap (λ m. bit_and m (shape % 16)) (sym size) in
    let top = c.topmost-top.ensures ∙ ap (λ w. top_of w c.value.result) width in
    let kind = c.kind_by.ensures ∙ (ap₂ (λ b m. kind_by b m c.topmost-top.result) byte (sym size) ∙ (ap (kind_by shape n) top ∙ tells.kind)) in
    let code = c.lowest.ensures ∙ (ap (λ w. c.topmost-top.result / 2 ^ (64 - 8 * w)) width
    ∙ (ap (λ t. t / 2 ^ (64 - 8 * bit_and n (shape % 16))) top ∙ tells.code)) in
    λ k. record { tag = i.tag; kind = kind k; code = code k; part = i.place * 65536 + sym size k }
