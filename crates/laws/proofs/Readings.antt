-- Who reads what was written or sent on reads the same table: the same count, tags, kinds, codes, lengths and value bytes, places and the
-- checksum's code aside.
-- Assumes nothing.
use Prim.Native.Nat.{ℕ, ◌≤◌}
use mathlib.Core.Path.{◌≡◌, refl, ap, sym, ◌∙◌}
use mathlib.Core.Bool.{Bool, true, false, cond, ◌&&◌}
use mathlib.Core.List.{List, [], ◌∷◌}
use lib.ListN.{length}
use lib.Dec.{eqb}
use borrow.Author.Tests.{le-ltb, ne_eqb}
use lib.Arith.{digits_mod}
use Rattle.base.proofs.Cases.{by_bool, by_eq, never, clash}
use Rattle.base.specs.Every.{Each}
use Rattle.base.proofs.Every.{both_left}
use Rattle.refusal.specs.Answer.{given, map}
use Rattle.number.specs.Stored.{Bytes, value_of}
use Rattle.catalogue.specs.Items.{groups, member, item_in, item_of}
use Rattle.catalogue.specs.Shapes.{shape_of}
use Rattle.catalogue.specs.declared.Shape.{Shape}
use Rattle.catalogue.specs.declared.Shape.TheVariants.{Text, Number, Absent}
use Rattle.tagset.specs.Sets.{holds}
use Rattle.tagset.specs.declared.TagSet.{TagSet}
use Rattle.knowing.specs.Good.{good}
use Rattle.packet.specs.Pieces.{Piece, Item, pieces}
use Rattle.packet.specs.Structure.{structure}
use Rattle.packet.specs.Judge.{Knowing, Judged, fine, faulty, no_version, judge}
use Rattle.packet.specs.Verdict.{placed, verdict}
use Rattle.packet.specs.Encode.{encode, canonical}
use Rattle.rows.specs.Meaning.{shape_for, value_as, meaning_of, kind_of, kind_for, code_of, is_number, said_by, mark_code}
use Rattle.rows.specs.declared.RowWords.{RowWords}
use Rattle.rows.specs.Taken.{part_length, row_says, GoodRow}
use Rattle.rows.proofs.Laws.{kind_seen}
use Rattle.packet.specs.Rows.{row_of, rows_of, bytes_at, piece_of, pieces_of, table_of, lent_verdict, Filled, filled_by, read_answer, table_by, read_table, rows_in}
use Rattle.packet.specs.Rows.{SameRow, SameTable, no_rows, one_more}
use Rattle.laws.specs.Receivers.{SameReading, both_refuse, both_read}
use Rattle.laws.proofs.Present.{same_present, same_withdrawn}
use Rattle.laws.proofs.Accepted.{accepts, accepting}
use Rattle.laws.proofs.Written.{sum_piece, SameBut, at_last, further, but_length, judged_alike, length_pieces}
use Rattle.laws.proofs.Written.{Sendable, ReadBack, read_back, written_accepted}
use Rattle.laws.proofs.Forward.{canonical_is, canonical_back}
use Rattle.laws.proofs.Tables.{has_read, rows_in_table}
use Rattle.laws.proofs.Rows.{Made, all_made, rows_good}
use Rattle.laws.proofs.Sent.{Lies, formed_lie, none_spelled, bytes_back, rows_pieces, sent_on, sent_canonical}

-- a number's row points at nothing
number-row : {A : Type 0} (least most : ℕ) (marked : Bool) (code n kind c size : ℕ) (a : A) → (n ≡ 0 → ⊥)
    → kind ≡ kind_for (Number least most marked) code n → is_number (said_by kind c size a) ≡ true
number-row least most marked code n kind c size a some e =
    let k : kind ≡ kind_of (value_as {A = Unit {0}} (Number least most marked) code n tt) = rw (ne_eqb n 0 some) at e in
    by_bool (marked && eqb code (mark_code most)) (λ m. rw (k, m)) (λ m. rw (k, m))

module _ (K : Knowing) (b q : List ℕ) where
  row-size : (j : Item) → Lies q j → part_length (row_of K j).part ≡ length j.piece.value
  unfolding row_of
  row-size j l = digits_mod j.place l.short

  -- a row and the row of its piece, wherever that is read
  same_row : (r : RowWords) (j : Item) → Made K b r → Lies q j → piece_of K b r ≡ j.piece → SameRow b q r (row_of K j)
  unfolding row_of piece_of
  same_row r j m l e =
      record {
        tag = ap (λ (c : Piece). c.tag) e;
        kind = m.kind ∙ ap (λ (c : Piece). kind_of (meaning_of (shape_for K c.tag) c.value)) e;
        code = λ other. m.code other ∙ ap (λ (c : Piece). code_of (meaning_of (shape_for K c.tag) c.value)) e;
        size = m.size ∙ (ap (λ (c : Piece). length c.value) e ∙ sym (row-size j l));
        value = λ h. pointed (shape_for K r.tag) refl h ∙ (ap (λ (c : Piece). c.value) e ∙ sym (bytes_back K q j l));
      }
    where
      pointed : (s : Shape) → shape_for K r.tag ≡ s → is_number (row_says r) ≡ false → bytes_at b r ≡ (piece_of K b r).value
      pointed (Number least most marked) f h =
          let v : List ℕ = (piece_of K b r).value in
          let k : r.kind ≡ kind_for (Number least most marked) (value_of v) (length v) =
          m.kind ∙ (ap (λ s. kind_of (meaning_of s v)) f ∙ kind_seen (length v) v (Number least most marked) (value_of v)) in
          by_eq (part_length r.part) 0
          (λ z. rw (f, z) (sym (none_spelled r.code)))
          (λ some. clash (sym (number-row least most marked (value_of v) (length v) r.kind _ _ _ (λ z. some (m.size ∙ z)) k) ∙ h))
      pointed Text f h = rw f
      pointed Absent f h = rw f

  -- the kind of a value at a tag; that of the checksum goes by the length alone
  abbrev kind_at : List ℕ → ℕ → ℕ
  kind_at v t = kind_of (meaning_of (shape_for K t) v)

  sum_kind : (v : List ℕ) → K 1 ≡ true → kind_at v 1 ≡ cond (eqb (length v) 0) 5 1
  unfolding shape_for shape_of item_of item_in groups member
  sum_kind v k = rw k (by_bool (eqb (length v) 0) (λ z. rw z) (λ z. rw z))

  -- the checksum's row
  sum_row : (r : RowWords) (j : Item) (v w : List ℕ) → K 1 ≡ true → Made K b r → Lies q j → length v ≡ length w
      → piece_of K b r ≡ sum_piece v → j.piece ≡ sum_piece w → SameRow b q r (row_of K j)
  unfolding piece_of row_of
  sum_row r j v w k m l e f g =
      let one : r.tag ≡ 1 = ap (λ (c : Piece). c.tag) f in
      let one' : j.piece.tag ≡ 1 = ap (λ (c : Piece). c.tag) g in
      let v' : List ℕ = (piece_of K b r).value in
      let w' : List ℕ = j.piece.value in
      let same : length v' ≡ length w' =
      ap (λ (c : Piece). length c.value) f ∙ (e ∙ sym (ap (λ (c : Piece). length c.value) g)) in
      let size : part_length r.part ≡ part_length (row_of K j).part = m.size ∙ (same ∙ sym (row-size j l)) in
      record {
        tag = one ∙ sym one';
        kind = m.kind ∙ (ap (kind_at v') one ∙ (sum_kind v' k ∙ (ap (λ n. cond (eqb n 0) 5 1) same ∙ sym (ap (kind_at w') one' ∙ sum_kind w' k))));
        code = λ other. absurd (other one);
        size = size;
        value = λ h. by_eq (part_length r.part) 0
            (λ z. rw (z, sym size ∙ z))
            (λ some.
            let reading : r.kind ≡ 1 = m.kind ∙ (ap (kind_at v') one ∙ (sum_kind v' k ∙ rw (ne_eqb (length v') 0 (λ z. some (m.size ∙ z))))) in
            clash (sym (rw reading) ∙ h));
      }

  -- rows, and the rows of their pieces, the checksum's value aside
  pub same_table : K 1 ≡ true → {cs ds : List Piece} → SameBut cs ds → (rs : List RowWords) (js : List Item) → pieces_of K b rs ≡ cs → pieces js ≡ ds
      → Each (Made K b) rs → Each (Lies q) js → SameTable b q rs (rows_of K js)
  unfolding pieces_of rows_of
  same_table k (at_last e) [] js f g m l = never (cc)
  same_table k (at_last e) (r ∷ s ∷ rs) js f g m l = never (cc)
  same_table k (at_last e) (r ∷ []) [] f g m l = never (cc)
  same_table k (at_last e) (r ∷ []) (j ∷ i ∷ js) f g m l = never (cc)
  same_table k (at_last {v} {w} e) (r ∷ []) (j ∷ []) f g m l = one_more (sum_row r j v w k m.0 l.0 e (cc) (cc)) no_rows
  same_table k (further s) [] js f g m l = never (cc)
  same_table k (further s) (r ∷ rs) [] f g m l = never (cc)
  same_table k (further s) (r ∷ rs) (j ∷ js) f g m l = one_more (same_row r j m.0 l.0 (cc)) (same_table k s rs js (cc) (cc) m.1 l.1)

-- rows of which none is bad, that a receiver writes and itself reads back
module _ (K : Knowing) (b : List ℕ) (rs : List RowWords) (k : K 1 ≡ true) (g : Each (GoodRow K b) rs) (s : Sendable (pieces_of K b rs))
    (e : judge K (pieces_of K b rs) ≡ fine) where
  back : ReadBack (pieces_of K b rs)
  back = read_back (pieces_of K b rs) s

  -- what was written is accepted, and gives the same table
  pub written_table : (is : List Item) × (verdict K (encode (pieces_of K b rs)) ≡ given is) × SameTable b (encode (pieces_of K b rs)) rs (rows_of K is)
  unfolding back
  written_table = (
    back.items,
    written_accepted (pieces_of K b rs) s K e,
    same_table K b (encode (pieces_of K b rs)) k back.same rs back.items refl refl (all_made K b rs g) (formed_lie _ back.items back.formed),
  )

-- what is sent on gives the same table as the packet
module _ (K : Knowing) (p : List ℕ) (is : List Item) (by : Bytes p) (k : K 1 ≡ true) where
  sent_table : (f : structure p ≡ given is) → judge K (pieces is) ≡ fine
      → SameTable p (encode (pieces is)) (rows_of K is) (rows_of K (canonical_back p is by f).items)
  sent_table f j =
      let back = canonical_back p is by f in
      let e : verdict K p ≡ given is = accepting K p is (record { found = f; faultless = j }) in
      same_table K p (encode (pieces is)) k back.same (rows_of K is) back.items (rows_pieces K p is by e) refl
      (all_made K p (rows_of K is) (rows_good K p is by e)) (formed_lie _ back.items back.formed)

  pub forward_table : verdict K p ≡ given is → (js : List Item) × (verdict K (canonical p) ≡ given js) × SameTable p (canonical p) (rows_of K is) (rows_of K js)
  forward_table e =
      let a = accepts K p is e in
      let back = canonical_back p is by a.found in
      rw (canonical_is p is by a.found) (
        back.items,
        accepting K _ _ (record { found = back.read; faultless = sym (judged_alike K back.same) ∙ a.faultless }),
        sent_table a.found a.faultless,
      )

-- who has a good set knows the checksum
knows_sum : (K : TagSet) → good K ≡ true → holds K 1 ≡ true
unfolding good
knows_sum K g = both_left (holds K 1) _ g

-- a packet whose structure is right, read by any receiver as it came and as it is sent on
module _ (K : TagSet) (p t t' : List ℕ) (is : List Item) (by : Bytes p) (found : structure p ≡ given is)
    (long : 512 ≤ length t) (long' : 512 ≤ length t') where
  sent : ReadBack (pieces is)
  sent = canonical_back p is by found

  same_reading : SameReading p (canonical p) (read_answer K p t) (read_table K p t) (read_answer K (canonical p) t') (read_table K (canonical p) t')
  unfolding read_answer read_table lent_verdict verdict sent
  same_reading =
      by_bool (good K)
      (λ g. rw (g, le-ltb (length t) 512 long, le-ltb (length t') 512 long', canonical_is p is by found, found, sent.read)
      (rw (← (judged_alike (holds K) sent.same))
      (go g (judge (holds K) (pieces is)) refl)))
      (λ g. rw g both_refuse)
    where
      go : good K ≡ true → (j : Judged) → judge (holds K) (pieces is) ≡ j
          → SameReading p (encode (pieces is)) (map (filled_by (holds K)) (placed is j)) (table_by (holds K) t (placed is j))
          (map (filled_by (holds K)) (placed sent.items j)) (table_by (holds K) t' (placed sent.items j))
      go g fine f =
          let count : length sent.items ≡ length is = sym (length_pieces sent.items) ∙ (sym (but_length sent.same) ∙ length_pieces is) in
          let n : ℕ = length is in
          let same = sent_table (holds K) p is by (knows_sum K g) found f in
          let rows : SameTable p (encode (pieces is)) (rows_in 0 n (table_of (holds K) is t)) (rows_in 0 n (table_of (holds K) sent.items t')) =
          rw (rows_in_table (holds K) is t n refl, rows_in_table (holds K) sent.items t' n count) same in
          rw (count, ← (same_present p (encode (pieces is)) same), ← (same_withdrawn p (encode (pieces is)) same)) (both_read rows)
      go g (faulty k n u) f = both_refuse
      go g no_version f = both_refuse

-- demand 3, second half: a packet that a receiver accepts and sends on is read by every other as it was before
pub sent_reading : (K K' : TagSet) (p s t t' : List ℕ) (done : Filled) → Bytes p → read_answer K p s ≡ given done → 512 ≤ length t → 512 ≤ length t'
    → SameReading p (sent_on K p s done) (read_answer K' p t) (read_table K' p t) (read_answer K' (sent_on K p s done) t') (read_table K' (sent_on K p s done) t')
sent_reading K K' p s t t' done by e long long' =
    let r = has_read K p s done e in
    rw (sent_canonical K p s done by e) (same_reading K' p t t' r.items by (accepts (holds K) p r.items r.accepted).found long long')
