-- The rows of an accepted packet, over that packet as the buffer, are its pieces: so whoever accepts it sends the same packet on, and
-- who gets it reads the same table.
-- Assumes nothing.
use Prim.Native.Nat.{ℕ, suc, ◌+◌, ◌<◌, ◌≤◌}
use native.Mathlib.Omega.{arith}
use mathlib.Core.Path.{◌≡◌, refl, ap, sym, ◌∙◌}
use mathlib.Core.Bool.{true}
use mathlib.Core.List.{List, [], ◌∷◌}
use lib.ListN.{length, take, drop}
use lib.Seq.{take_at, drop-drop}
use lib.Arith.{digits_div, digits_mod}
use Rattle.base.proofs.Cases.{by_bool, by_eq, clash}
use Rattle.base.specs.Every.{Each}
use Rattle.refusal.specs.Answer.{given}
use Rattle.number.specs.Stored.{Bytes, value_of, bytes_of}
use Rattle.number.proofs.Laws.{bytes_drop, bytes_take, length_bytes_of, spelled}
use Rattle.catalogue.specs.Shapes.{shape_of, is_listed, size_allowed, right_length}
use Rattle.catalogue.specs.declared.Shape.{Shape}
use Rattle.catalogue.specs.declared.Shape.TheVariants.{Text, Number, Absent}
use Rattle.tagset.specs.Sets.{holds}
use Rattle.tagset.specs.declared.TagSet.{TagSet}
use Rattle.rows.specs.Meaning.{shape_for}
use Rattle.rows.proofs.Laws.{code_seen}
use Rattle.packet.specs.Pieces.{Piece, Item, pieces}
use Rattle.packet.specs.Judge.{Knowing}
use Rattle.packet.specs.Verdict.{verdict}
use Rattle.packet.specs.Rows.{row_of, rows_of, Filled, read_answer, read_table, rows_in, bytes_at, row_value, piece_of, pieces_of}
use Rattle.packet.specs.Encode.{encode, canonical}
use Rattle.packet.specs.Allowed.{head_of, ItemsOf, no_more, another, Formed, piece_at}
use Rattle.laws.proofs.Items.{piece_bytes, after_head, after_piece, piece_length}
use Rattle.laws.proofs.Structure.{structure_formed, formed_length, formed_body}
use Rattle.laws.proofs.Clean.{fine_clean}
use Rattle.laws.proofs.Accepted.{accepts}
use Rattle.laws.proofs.Tables.{has_read, read_count, rows_in_table}
use Rattle.laws.proofs.Forward.{canonical_is, forward_shorter}

-- an item lies in the packet where it says
pub record Lies (p : List ℕ) (i : Item) : Type 0 where
  pub there : i.piece.value ≡ take (length i.piece.value) (drop i.place p)
  pub short : length i.piece.value < 65536
  pub inside : i.place + length i.piece.value ≤ length p

items_lie : (p : List ℕ) {at : ℕ} {l : List ℕ} {is : List Item} → ItemsOf at l is → l ≡ drop at p → at + length l ≡ length p → length p < 65536
    → Each (Lies p) is
items_lie p no_more e h k = tt
items_lie p (another {at} c form rest some small f i) e h k =
    let size = piece_length c form rest in
    let dropped : (n : ℕ) → drop (at + n) p ≡ drop n (piece_bytes c form rest) = λ n. sym (drop-drop n at p) ∙ ap (drop n) (sym e) in (
      record {
        there = sym (ap (take (length c.value)) (dropped (head_of c form) ∙ after_head c form rest) ∙ take_at c.value rest _ refl);
        short = omega arith;
        inside = omega arith;
      },
      items_lie p i (sym (dropped (head_of c form + length c.value) ∙ after_piece c form rest)) (omega arith) k,
    )

-- all items of a packet do
pub formed_lie : (p : List ℕ) (is : List Item) → Formed p is → Each (Lies p) is
formed_lie p is f = items_lie p f.items (sym (formed_body p is f)) (omega (arith, formed_length p is f)) (omega (arith, f.small))

-- the bytes that an item's row points at are its value
pub bytes_back : (K : Knowing) (p : List ℕ) (i : Item) → Lies p i → bytes_at p (row_of K i) ≡ i.piece.value
unfolding row_of
bytes_back K p i l = rw (digits_mod i.place l.short, digits_div i.place l.short) (sym l.there)

pub lies_bytes : (p : List ℕ) (i : Item) → Bytes p → Lies p i → Bytes i.piece.value
lies_bytes p i by l = rw l.there (bytes_take (length i.piece.value) (drop i.place p) (bytes_drop i.place by))

-- the length is allowed where the tag is known
abbrev pub SizedFor : Knowing → Piece → Type 0
SizedFor K c = K c.tag ≡ true → right_length c.tag (length c.value) ≡ true

-- by the shape that a receiver gives the tag
pub shape_sized : (K : Knowing) (c : Piece) (s : Shape) → is_listed s ≡ true → SizedFor K c → shape_for K c.tag ≡ s
    → size_allowed c.tag s (length c.value) ≡ true
unfolding shape_for right_length
shape_sized K c s l sized e =
    by_bool (K c.tag)
    (λ k. let f : shape_of c.tag ≡ s = rw k at e in ap (λ x. size_allowed c.tag x (length c.value)) (sym f) ∙ sized k)
    (λ k. let f : Absent ≡ s = rw k at e in clash (sym l ∙ ap is_listed (sym f)))

-- what has no bytes is empty
no_bytes : (v : List ℕ) → length v ≡ 0 → v ≡ []
no_bytes [] z = refl
no_bytes (x ∷ v) z = absurd (omega arith)

pub none_spelled : (x : ℕ) → bytes_of 0 x ≡ []
none_spelled x = no_bytes (bytes_of 0 x) (length_bytes_of 0 x)

-- a row's piece is the item's
pub piece_back : (K : Knowing) (p : List ℕ) (i : Item) → Bytes p → Lies p i → piece_of K p (row_of K i) ≡ i.piece
unfolding piece_of row_of
piece_back K p i by l = ap (λ v. record { tag = i.piece.tag; value = v }) (back (shape_for K i.piece.tag) refl)
  where
    back : (s : Shape) → shape_for K i.piece.tag ≡ s → row_value s p (row_of K i) ≡ i.piece.value
    back (Number least most marked) e =
        let v : List ℕ = i.piece.value in
        by_eq (length v) 0
        (λ z. rw (digits_mod i.place l.short, z) (none_spelled _ ∙ sym (no_bytes v z)))
        (λ some. rw (e, code_seen _ v least most marked (value_of v) some, digits_mod i.place l.short)
        (spelled v (length v) (value_of v) (lies_bytes p i by l) refl refl))
    back Text e = bytes_back K p i l
    back Absent e = bytes_back K p i l

pieces_back : (K : Knowing) (p : List ℕ) (is : List Item) → Bytes p → Each (Lies p) is → pieces_of K p (rows_of K is) ≡ pieces is
unfolding pieces_of rows_of
pieces_back K p [] by l = refl
pieces_back K p (i ∷ is) by l = rw (piece_back K p i by l.0, pieces_back K p is by l.1)

each_sized : (K : Knowing) (cs : List Piece) → ((k : ℕ) → k < length cs → SizedFor K (piece_at cs k)) → Each (SizedFor K) cs
each_sized K [] s = tt
each_sized K (c ∷ cs) s = (s 0 (omega arith), each_sized K cs (λ k h. s (suc k) (omega arith)))

-- a packet that a receiver accepts
module _ (K : Knowing) (p : List ℕ) (is : List Item) (by : Bytes p) (e : verdict K p ≡ given is) where
  pub accepted_sized : Each (SizedFor K) (pieces is)
  accepted_sized = each_sized K (pieces is) (fine_clean K (pieces is) (accepts K p is e).faultless).sized

  pub accepted_lie : Each (Lies p) is
  accepted_lie = formed_lie p is (structure_formed p is by (accepts K p is e).found)

  -- its rows, turned into pieces again, are its pieces
  pub rows_pieces : pieces_of K p (rows_of K is) ≡ pieces is
  rows_pieces = pieces_back K p is by accepted_lie

  -- so sending on gives the same bytes, whoever sends
  pub sent-on : encode (pieces_of K p (rows_of K is)) ≡ canonical p
  sent-on = rw (rows_pieces, canonical_is p is by (accepts K p is e).found)

-- "sending on is reading and then writing all rows, the packet being the buffer": all rows that were read into the table t
abbrev pub sent_on : TagSet → List ℕ → List ℕ → Filled → List ℕ
sent_on K p t done = encode (pieces_of (holds K) p (rows_in 0 done.count (read_table K p t)))

module _ (K : TagSet) (p t : List ℕ) (done : Filled) (by : Bytes p) (e : read_answer K p t ≡ given done) where
  -- what is sent on does not depend on who sends
  pub sent_canonical : sent_on K p t done ≡ canonical p
  sent_canonical =
      let r = has_read K p t done e in
      rw (r.table, rows_in_table (holds K) r.items t done.count (read_count r)) (sent-on (holds K) p r.items by r.accepted)

  -- and is never longer
  pub sent_shorter : length (sent_on K p t done) ≤ length p
  sent_shorter = let r = has_read K p t done e in rw sent_canonical (forward_shorter (holds K) p r.items by r.accepted)
