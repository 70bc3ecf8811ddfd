-- Rows taken out singly and written as records give what the same rows give the word-table writer; and good rows are taken out.
-- Assumes nothing.
use Prim.Native.Nat.{ℕ, zero, suc, ◌+◌, ◌*◌, ◌^◌, ◌<◌, ◌≤◌}
use native.Mathlib.Nat.{div-add-mod', zero-add}
use native.Mathlib.Omega.{arith}
use mathlib.Core.Path.{◌≡◌, refl, ap, sym, ◌∙◌, subst}
use mathlib.Core.Bool.{Bool, true, false, not, ◌&&◌}
use mathlib.Core.List.{List, [], ◌∷◌}
use lib.Dec.{ltb, leb, eqb}
use lib.ListN.{length, get_or, set, replicate, length-set}
use lib.Seq.{sets, get_or-set_same, get_or-set_other, length-sets}
use borrow.Author.Tests.{eqb-true, leb-true, eq-eqb, lt-ltb, le-ltb, le-leb}
use Rattle.base.proofs.Cases.{by_bool, by_eq, by_lt, never}
use Rattle.base.specs.Every.{Each}
use Rattle.base.proofs.Every.{both_left, both_right, both_true}
use Rattle.refusal.specs.Answer.{given, map, then}
use Rattle.refusal.proofs.Answers.{given_same, passed}
use Rattle.tagset.specs.Sets.{holds}
use Rattle.tagset.specs.declared.TagSet.{TagSet}
use Rattle.knowing.specs.Good.{good}
use Rattle.catalogue.specs.Shapes.{shape_of, shape_allows, is_listed, is_empty, is_needed}
use Rattle.catalogue.proofs.Columns.{number_ranged}
use Rattle.catalogue.specs.declared.Shape.{Shape}
use Rattle.catalogue.specs.declared.Shape.TheVariants.{Text, Number, Absent}
use Rattle.rows.specs.Meaning.{shape_for, value_as, kind_of, kind_for, mark_code, reading_kind, mark_kind, text_kind, carried_kind, withdrawn_kind, said_by}
use Rattle.rows.specs.declared.RowWords.{RowWords}
use Rattle.rows.specs.Taken.{part_length, tag_good, withdrawn_good, content_good, row_good, count_good, tag_shown, row_at, part_of, content_of, row_taken_at, GoodRow}
use Rattle.rows.specs.declared.Row.{Row}
use Rattle.rows.specs.declared.Part.{Part}
use Rattle.packet.specs.Judge.{Knowing}
use Rattle.packet.specs.Rows.{rows_in, row_value, piece_of, pieces_of}
use Rattle.outgoing.specs.Outgoing.{outgoing}
use Rattle.outgoing.proofs.Stages.{good_all}
use Rattle.rows.proofs.Laws.{count-good}
use Rattle.writer.specs.Writes.{Writes, roomy, written, written_by, output_by, write_answer, write_output}
use Rattle.records.specs.Images.{width_by, width_of, says_for, row_with, row_saying, image_of, none, put_image, images_into, fitting, image_table}
use Rattle.records.specs.TakenOut.{Words, TakenOut, taken, taken_from}
use Rattle.std.specs.Prelude.{Result}
use Rattle.refusal.specs.declared.Refusal.{Refusal}
use Rattle.writer.specs.declared.Written.{Written}

-- a row with another fourth word
abbrev with_part : RowWords → ℕ → RowWords
with_part r word = record { tag = r.tag; kind = r.kind; code = r.code; part = word }

known_shape : (K : Knowing) (t least most : ℕ) (marked : Bool) → shape_for K t ≡ Number least most marked → shape_of t ≡ Number least most marked
unfolding shape_for
known_shape K t least most marked e =
    by_bool (K t)
    (λ k. rw k at e)
    (λ k. let f : Absent ≡ Number least most marked = rw k at e in never (cc))

words_of : {t t' k k' c c' s s' : ℕ} → t ≡ t' → k ≡ k' → c ≡ c' → s ≡ s'
    → ◌≡◌ {A = RowWords} (record { tag = t; kind = k; code = c; part = s }) (record { tag = t'; kind = k'; code = c'; part = s' })
words_of o p q h i = record { tag = o i; kind = p i; code = q i; part = h i }

-- ---- the image of a row that is not bad
module _ (r : RowWords) where
  -- by what its kind says
  abbrev said : ℕ → RowWords
  said kind = row_saying r.tag (says_for r.tag (content_of (said_by kind r.code (part_length r.part) (part_of r.part))))

  image_said : (kind : ℕ) → r.kind ≡ kind → image_of (taken r) ≡ said kind
  unfolding image_of
  image_said kind e = ap said e

  -- words put together that are its own, but for the fourth
  row_is : (kind code : ℕ) (part : Part) (word : ℕ) → kind ≡ r.kind → code ≡ r.code → part.place < 2 ^ 48 → part.length < 65536
      → part.place * 65536 + part.length ≡ word → row_with r.tag kind code part ≡ with_part r word
  row_is kind code part word k c p l e = rw (lt-ltb part.place (2 ^ 48) p, lt-ltb part.length 65536 l) (words_of refl k c e)

  -- a number's is the row with place 0; a mark has the one length of its tag
  number_image : (least most : ℕ) (marked : Bool) → shape_of r.tag ≡ Number least most marked
      → shape_allows (Number least most marked) (part_length r.part) ≡ true
      → r.kind ≡ kind_of (value_as {A = Unit {0}} (Number least most marked) r.code (part_length r.part) tt)
      → image_of (taken r) ≡ with_part r (part_length r.part)
  number_image least most marked e a k =
      by_bool (marked && eqb r.code (mark_code most))
      (λ m.
      let two : r.kind ≡ mark_kind = k ∙ rw m in
      let one : least ≡ most = (number_ranged r.tag least most marked e).one (both_left marked _ m) in
      let size : ℕ = part_length r.part in
      let low : least ≤ size = leb-true least size (both_left (leb least size) _ a) in
      let high : size ≤ most = leb-true size most (both_right (leb least size) _ a) in
      let n : most ≡ size = omega (arith, one, low, high) in
      let w : width_of r.tag ≡ part_length r.part = ap width_by e ∙ (rw (eq-eqb least most one) n) in
      image_said mark_kind two
      ∙ number mark_kind _ _ (sym two) (ap mark_code (w ∙ sym n) ∙ sym (eqb-true _ _ (both_right marked _ m))) w)
      (λ m.
      let one : r.kind ≡ reading_kind = k ∙ rw m in
      image_said reading_kind one ∙ number reading_kind _ _ (sym one) refl refl)
    where
      number : (kind code size : ℕ) → kind ≡ r.kind → code ≡ r.code → size ≡ part_length r.part
          → row_with r.tag kind code (record { place = 0; length = size }) ≡ with_part r (part_length r.part)
      number kind code size k c s =
          row_is kind code (record { place = 0; length = size }) (part_length r.part) k c (omega arith) (omega (arith, s)) (omega (arith, s))

  -- that of what is withdrawn is the row with place and length 0
  withdrawn_image : r.kind ≡ withdrawn_kind → r.code ≡ 0 → image_of (taken r) ≡ with_part r 0
  withdrawn_image k c =
      image_said withdrawn_kind k ∙ row_is withdrawn_kind 0 (record { place = 0; length = 0 }) 0 (sym k) (sym c) (omega arith) (omega arith) refl

  -- what a fourth word says is put together again
  part_image : (kind : ℕ) → said kind ≡ row_with r.tag kind 0 (part_of r.part) → r.part < 2 ^ 64 → r.kind ≡ kind → r.code ≡ 0
      → image_of (taken r) ≡ r
  part_image kind e h k c =
      image_said kind k
      ∙ (e ∙ row_is kind 0 (part_of r.part) r.part (sym k) (sym c) (omega (arith, h)) (omega arith) (div-add-mod' r.part 65536))

-- what it is not to be bad, part by part
record Fine (s : Shape) (room : ℕ) (r : RowWords) : Type 0 where
  tagged : tag_good r.tag ≡ true
  kind : r.kind ≡ kind_for s r.code (part_length r.part)
  content : content_good s room r ≡ true

fine : (s : Shape) (room : ℕ) (r : RowWords) → row_good s room r ≡ true → Fine s room r
unfolding row_good
fine s room r e =
    let e' = both_right (tag_good r.tag) _ e in
    record {
      tagged = both_left (tag_good r.tag) _ e;
      kind = eqb-true _ _ (both_left (eqb r.kind (kind_for s r.code (part_length r.part))) _ e');
      content = both_right (eqb r.kind (kind_for s r.code (part_length r.part))) _ e';
    }

fine_good : (s : Shape) (room : ℕ) (r : RowWords) → Fine s room r → row_good s room r ≡ true
unfolding row_good
fine_good s room r f = both_true _ _ f.tagged (both_true _ _ (eq-eqb _ _ f.kind) f.content)

-- an image that is not bad either, and stands for the same piece
record Alike (K : Knowing) (b : List ℕ) (r s : RowWords) : Type 0 where
  kept : GoodRow K b s
  piece : piece_of K b s ≡ piece_of K b r

module _ (K : Knowing) (b : List ℕ) (r : RowWords) where
  number_alike : (least most : ℕ) (marked : Bool) → shape_for K r.tag ≡ Number least most marked → Fine (Number least most marked) (length b) r
      → Alike K b r (with_part r (part_length r.part))
  unfolding piece_of
  number_alike least most marked f g =
      let n : ℕ = part_length r.part in
      let size : part_length n ≡ n = omega arith in
      let g' : Fine (Number least most marked) (length b) (with_part r n) =
      record { tagged = g.tagged; kind = rw size g.kind; content = rw size g.content } in
      record { kept = rw f (fine_good (Number least most marked) (length b) (with_part r n) g'); piece = rw (f, size) }

  withdrawn_alike : part_length r.part ≡ 0 → Fine (shape_for K r.tag) (length b) r → is_empty (shape_for K r.tag) 0 ≡ true → Alike K b r (with_part r 0)
  unfolding piece_of
  withdrawn_alike z g e =
      let kind : r.kind ≡ withdrawn_kind = rw (z, e) at g.kind in
      let content : withdrawn_good r.tag r.code ≡ true = rw (z, e) at g.content in
      record {
        kept = fine_good (shape_for K r.tag) (length b) (with_part r 0) (record { tagged = g.tagged; kind = rw e kind; content = rw e content });
        piece = ap (λ v. record { tag = r.tag; value = v }) (go (shape_for K r.tag));
      }
    where
      go : (s : Shape) → row_value s b (with_part r 0) ≡ row_value s b r
      go (Number least most marked) = rw z
      go Text = rw z
      go Absent = rw z

  same_alike : (s : RowWords) → s ≡ r → GoodRow K b r → Alike K b r s
  same_alike s e g = record { kept = rw e g; piece = ap (piece_of K b) e }

  alike : r.part < 2 ^ 64 → GoodRow K b r → Alike K b r (image_of (taken r))
  alike h g =
      let p = fine (shape_for K r.tag) (length b) r g in
      by_bool (is_empty (shape_for K r.tag) (part_length r.part))
      (λ e. emptied e p)
      (λ e. go (shape_for K r.tag) refl e p)
    where
      emptied : is_empty (shape_for K r.tag) (part_length r.part) ≡ true → Fine (shape_for K r.tag) (length b) r → Alike K b r (image_of (taken r))
      emptied e p =
          let z : part_length r.part ≡ 0 = eqb-true _ 0 (both_right (is_listed (shape_for K r.tag)) _ e) in
          let code = eqb-true _ _ (both_right (not (is_needed r.tag)) _ (rw e at p.content)) in
          subst (Alike K b r) (sym (withdrawn_image r (rw e at p.kind) code)) (withdrawn_alike z p (rw z at e))

      go : (s : Shape) → shape_for K r.tag ≡ s → is_empty s (part_length r.part) ≡ false → Fine s (length b) r → Alike K b r (image_of (taken r))
      go (Number least most marked) f z p =
          let e = known_shape K r.tag least most marked f in
          let a = both_left (shape_allows (Number least most marked) (part_length r.part)) _ (rw z at p.content) in
          subst (Alike K b r) (sym (number_image r least most marked e a (rw z at p.kind))) (number_alike least most marked f p)
      go Text f z p =
          same_alike _ (part_image r text_kind refl h (rw z at p.kind) (eqb-true _ _ (both_left (eqb r.code 0) _ (rw z at p.content)))) g
      go Absent f z p = same_alike _ (part_image r carried_kind refl h p.kind (eqb-true _ _ (both_left (eqb r.code 0) _ p.content))) g

-- ---- the table's rows are the images
length_images : (n : ℕ) (rs : List Row) (t : List ℕ) → length (images_into n rs t) ≡ length t
unfolding images_into
length_images zero rs t = refl
length_images (suc n) rs t =
    let r = image_of (get_or rs n none) in
    length-sets (images_into n rs t) (4 * n) (r.tag ∷ r.kind ∷ r.code ∷ r.part ∷ []) ∙ length_images n rs t

-- words stored one after the other: those before them stay, and each is there
stored_before : (vs l : List ℕ) (i j : ℕ) → j < i → get_or (sets l i vs) j 0 ≡ get_or l j 0
stored_before [] l i j h = refl
stored_before (v ∷ vs) l i j h =
    stored_before vs (set l i v) (suc i) j (omega (arith, h)) ∙ get_or-set_other l i j v 0 (λ e. omega (arith, h, e))

stored_at : (vs l : List ℕ) (i k : ℕ) → k < length vs → i + length vs ≤ length l → get_or (sets l i vs) (i + k) 0 ≡ get_or vs k 0
stored_at [] l i k h m = absurd (omega (arith, h))
stored_at (v ∷ vs) l i zero h m =
    let e : i + 0 ≡ i = omega arith in
    rw e (stored_before vs (set l i v) (suc i) i (omega arith) ∙ get_or-set_same l i v 0 (omega (arith, m)))
stored_at (v ∷ vs) l i (suc k) h m =
    let e : i + suc k ≡ suc i + k = omega arith in
    rw e (stored_at vs (set l i v) (suc i) k (omega (arith, h)) (rw (length-set l i v) (omega (arith, m))))

module _ (t : List ℕ) (n : ℕ) (r : RowWords) where
  abbrev four : List ℕ
  four = r.tag ∷ r.kind ∷ r.code ∷ r.part ∷ []

  put_other : (k : ℕ) → k < n → row_at (put_image t n r) k ≡ row_at t k
  unfolding row_at
  put_other k h = words_of (stays (4 * k) (omega (arith, h))) (stays (4 * k + 1) (omega (arith, h))) (stays (4 * k + 2) (omega (arith, h)))
      (stays (4 * k + 3) (omega (arith, h)))
    where
      stays : (j : ℕ) → j < 4 * n → get_or (put_image t n r) j 0 ≡ get_or t j 0
      stays = stored_before four t (4 * n)

  put_at : 4 * n + 4 ≤ length t → row_at (put_image t n r) n ≡ r
  unfolding row_at
  put_at h =
      let e : 4 * n ≡ 4 * n + 0 = omega arith in
      words_of (ap (λ j. get_or (put_image t n r) j 0) e ∙ is 0 (omega arith)) (is 1 (omega arith)) (is 2 (omega arith)) (is 3 (omega arith))
    where
      is : (k : ℕ) → k < 4 → get_or (put_image t n r) (4 * n + k) 0 ≡ get_or four k 0
      is k l = stored_at four t (4 * n) k l h

image_at : (n : ℕ) (rs : List Row) (t : List ℕ) → 4 * n ≤ length t → (k : ℕ) → k < n → row_at (images_into n rs t) k ≡ image_of (get_or rs k none)
unfolding images_into
image_at zero rs t h k l = absurd (omega (arith, l))
image_at (suc n) rs t h k l =
    by_eq k n
    (λ same. rw same (put_at (images_into n rs t) n (image_of (get_or rs n none)) (rw (length_images n rs t) (omega (arith, h)))))
    (λ other. put_other (images_into n rs t) n (image_of (get_or rs n none)) k (omega (arith, l)) ∙ image_at n rs t (omega (arith, h)) k (omega (arith, l)))

-- as many records as have room are all of up to 128
fitting_all : (n : ℕ) → n ≤ 128 → fitting n ≡ n
fitting_all n h = by_lt n 128 (λ l. rw (lt-ltb n 128 l)) (λ l. rw (le-ltb n 128 l) (omega (arith, h, l)))

length_table : (rs : List Row) → length (image_table rs) ≡ 512
unfolding image_table
length_table rs = length_images (fitting (length rs)) rs (replicate 512 0)

pub count_fits : (rs : List Row) → length rs ≤ 128 → count_good (length rs) (length (image_table rs)) ≡ true
count_fits rs h = both_true _ _ (le-leb _ _ h) (le-leb (4 * length rs) (length (image_table rs)) (rw (length_table rs) (omega (arith, h))))

pub table_at : (rs : List Row) → length rs ≤ 128 → (k : ℕ) → k < length rs → row_at (image_table rs) k ≡ image_of (get_or rs k none)
unfolding image_table
table_at rs h k l =
    let all = fitting_all (length rs) h in
    image_at (fitting (length rs)) rs (replicate 512 0) (rw all (omega (arith, h))) k (rw all l)

-- ---- what a row taken out says
record Took (K : TagSet) (room n k : ℕ) (w : List ℕ) (x : Row) : Type 0 where
  counted : count_good n (length w) ≡ true
  kept : row_good (shape_for (holds K) (row_at w k).tag) room (row_at w k) ≡ true
  is : taken (row_at w k) ≡ x

took : (K : TagSet) (room n k : ℕ) (w : List ℕ) (x : Row) → row_taken_at K room n k w ≡ given x → Took K room n k w x
unfolding row_taken_at
took K room n k w x e =
    let s = passed (good K) _ 1 0 0 e in
    let c = passed (count_good n (length w)) _ 16 0 0 s.1 in
    let l = passed (ltb k n) _ 17 k 0 c.1 in
    let g = passed (row_good (shape_for (holds K) (row_at w k).tag) room (row_at w k)) _ 17 k (tag_shown (row_at w k).tag) l.1 in
    record { counted = c.0; kept = g.0; is = given_same g.1 }

-- ---- lists of rows
module _ (K : Knowing) (b : List ℕ) where
  each_good : (k n : ℕ) (t : List ℕ) → ((j : ℕ) → k ≤ j → j < k + n → GoodRow K b (row_at t j)) → Each (GoodRow K b) (rows_in k n t)
  unfolding rows_in
  each_good k zero t h = tt
  each_good k (suc n) t h = (h k (omega arith) (omega arith), each_good (suc k) n t (λ j l m. h j (omega (arith, l)) (omega (arith, m))))

  same_pieces : (k n : ℕ) (t u : List ℕ) → ((j : ℕ) → k ≤ j → j < k + n → piece_of K b (row_at t j) ≡ piece_of K b (row_at u j))
      → pieces_of K b (rows_in k n t) ≡ pieces_of K b (rows_in k n u)
  unfolding rows_in pieces_of
  same_pieces k zero t u h = refl
  same_pieces k (suc n) t u h = rw (h k (omega arith) (omega arith), same_pieces (suc k) n t u (λ j l m. h j (omega (arith, l)) (omega (arith, m))))

spot_fits : (w : List ℕ) → Words w → (k : ℕ) → (row_at w k).part < 2 ^ 64
unfolding row_at
spot_fits w h k = h.word (4 * k + 3)

-- what is written settles the outcome
written_alike : (K : TagSet) (n : ℕ) (t u b o o' : List ℕ) (z : Result Written Refusal) → written K n t b (length o) ≡ written K n u b (length o)
    → Writes K n t b o z o' → Writes K n u b o z o'
unfolding write_answer write_output
written_alike K n t u b o o' z s e = record { answer = e.answer ∙ ap (map written_by) s; output = e.output ∙ ap (output_by o) s }

module _ (K : TagSet) (w b : List ℕ) (rs : List Row) (h : Words w) (p : TakenOut K (length b) w rs) where
  all_took : (k : ℕ) → k < length rs → Took K (length b) (length rs) k w (get_or rs k none)
  all_took k l = took K (length b) (length rs) k w (get_or rs k none) (p.row k l)

  few : (length rs ≤ 128) × (4 * length rs ≤ length w)
  few = by_eq (length rs) 0
      (λ no. (omega (arith, no), omega (arith, no)))
      (λ some. count-good (length rs) (length w) (all_took 0 (omega (arith, some))).counted)

  alike_at : (k : ℕ) → k < length rs → Alike (holds K) b (row_at w k) (row_at (image_table rs) k)
  alike_at k l =
      let t = all_took k l in
      subst (Alike (holds K) b (row_at w k)) (ap image_of t.is ∙ sym (table_at rs few.0 k l)) (alike (holds K) b (row_at w k) (spot_fits w h k) t.kept)

  table_good : Each (GoodRow (holds K) b) (rows_in 0 (length rs) (image_table rs))
  table_good = each_good (holds K) b 0 (length rs) (image_table rs) (λ j l m. (alike_at j (omega (arith, m))).kept)

  words_good : Each (GoodRow (holds K) b) (rows_in 0 (length rs) w)
  words_good = each_good (holds K) b 0 (length rs) w (λ j l m. (all_took j (omega (arith, m))).kept)

  pieces_are : pieces_of (holds K) b (rows_in 0 (length rs) (image_table rs)) ≡ pieces_of (holds K) b (rows_in 0 (length rs) w)
  pieces_are = same_pieces (holds K) b 0 (length rs) (image_table rs) w (λ j l m. (alike_at j (omega (arith, m))).piece)

  outgoing_same : outgoing K (length rs) (image_table rs) b ≡ outgoing K (length rs) w b
  unfolding outgoing
  outgoing_same =
      let m : count_good (length rs) (length w) ≡ true = both_true _ _ (le-leb _ _ few.0) (le-leb _ _ few.1) in
      let ours = good_all (holds K) b 0 (rows_in 0 (length rs) (image_table rs)) table_good in
      let theirs = good_all (holds K) b 0 (rows_in 0 (length rs) w) words_good in
      rw (count_fits rs few.0, m, ours, theirs, pieces_are)

  -- the same packet or the same refusal, for any room
  pub records_written : (room : ℕ) → written K (length rs) (image_table rs) b room ≡ written K (length rs) w b room
  unfolding written
  records_written room = ap (λ a. then a (roomy room)) outgoing_same

  -- so one contract holds of an outcome where the other does
  pub records_then_words : (o o' : List ℕ) (z : Result Written Refusal) → Writes K (length rs) (image_table rs) b o z o' → Writes K (length rs) w b o z o'
  records_then_words o o' z = written_alike K (length rs) (image_table rs) w b o o' z (records_written (length o))

  pub words_then_records : (o o' : List ℕ) (z : Result Written Refusal) → Writes K (length rs) w b o z o' → Writes K (length rs) (image_table rs) b o z o'
  words_then_records o o' z = written_alike K (length rs) w (image_table rs) b o o' z (sym (records_written (length o)))

-- ---- good rows are taken out
taken_length : (k n : ℕ) (w : List ℕ) → length (taken_from k n w) ≡ n
unfolding taken_from
taken_length k zero w = refl
taken_length k (suc n) w = ap suc (taken_length (suc k) n w)

taken_at : (k n : ℕ) (w : List ℕ) (j : ℕ) → j < n → get_or (taken_from k n w) j none ≡ taken (row_at w (k + j))
unfolding taken_from
taken_at k zero w j l = absurd (omega (arith, l))
taken_at k (suc n) w zero l = let e : k ≡ k + 0 = omega arith in ap (λ i. taken (row_at w i)) e
taken_at k (suc n) w (suc j) l =
    let e : suc k + j ≡ k + suc j = omega arith in
    taken_at (suc k) n w j (omega (arith, l)) ∙ ap (λ i. taken (row_at w i)) e

good_at : (K : Knowing) (b : List ℕ) (k n : ℕ) (w : List ℕ) → Each (GoodRow K b) (rows_in k n w) → (j : ℕ) → k ≤ j → j < k + n → GoodRow K b (row_at w j)
unfolding rows_in
good_at K b k zero w g j l m = absurd (omega (arith, l, m))
good_at K b k (suc n) w g j l m =
    by_eq k j
    (λ same. subst (λ i. GoodRow K b (row_at w i)) same g.0)
    (λ other. good_at K b (suc k) n w g.1 j (omega (arith, l, other)) (omega (arith, m)))

pub good_taken_out : (K : TagSet) (b : List ℕ) (n : ℕ) (w : List ℕ) → good K ≡ true → count_good n (length w) ≡ true
    → Each (GoodRow (holds K) b) (rows_in 0 n w)
    → TakenOut K (length b) w (taken_from 0 n w)
unfolding row_taken_at
good_taken_out K b n w s c g = record {
  row = λ k l.
      let all = taken_length 0 n w in
      let below : k < n = rw all at l in
      let fine : GoodRow (holds K) b (row_at w k) = good_at (holds K) b 0 n w g k (omega arith) (omega (arith, below)) in
      let same : get_or (taken_from 0 n w) k none ≡ taken (row_at w k) = taken_at 0 n w k below ∙ ap (λ i. taken (row_at w i)) (zero-add k) in
      rw (all, s, c, lt-ltb k n below, fine, same);
}
