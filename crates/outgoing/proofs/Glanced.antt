-- Rows seen to be right at a glance, and a table that is: the stages say the same of them.
-- Assumes nothing.
use Prim.Native.Nat.{ℕ, ◌+◌, ◌-◌, ◌*◌, ◌^◌, ◌<◌, ◌≤◌}
use native.Mathlib.Nat.{sub-zero, zero-add}
use native.Mathlib.Omega.{arith}
use mathlib.Core.Path.{◌≡◌, refl, ap, sym, ◌∙◌}
use mathlib.Core.Bool.{true, false}
use mathlib.Core.List.{List}
use lib.Dec.{leb}
use lib.Pow.{pow-add, pow_pos}
use borrow.Author.Tests.{leb-true, lt-ltb, ne_eqb}
use Rattle.base.proofs.Every.{both_left, both_right, both_true}
use Rattle.refusal.specs.Answer.{given}
use Rattle.tagset.specs.Sets.{no_tags, holds, with_tag, meet}
use Rattle.tagset.specs.declared.TagSet.{TagSet}
use Rattle.tagset.proofs.Laws.{Words, no_words, with_words}
use Rattle.tagset.proofs.Meeting.{meet_none, meet_with}
use Rattle.catalogue.specs.Extended.{is_extended, per_two_metres, in_reach}
use Rattle.catalogue.specs.Shapes.{shape_of, shape_allows, is_empty, code_allowed}
use Rattle.catalogue.specs.declared.Shape.{Shape}
use Rattle.catalogue.specs.declared.Shape.TheVariants.{Text, Number, Absent}
use Rattle.catalogue.proofs.Columns.{extended_in, extended_shape, extended-code, reach_allowed}
use Rattle.rows.specs.Meaning.{shape_for}
use Rattle.rows.specs.declared.RowWords.{RowWords}
use Rattle.rows.specs.Taken.{tag_good, code_good, part_length, row_good, value_row_good, row_at}
use Rattle.rows.specs.Present.{is_present, with_row, words_from, present_in}
use Rattle.packet.specs.Rows.{rows_in}
use Rattle.outgoing.specs.Outgoing.{right_rows, agrees}
use Rattle.outgoing.specs.code.Staged.{row_size, rows_size, packed_by, row_fault, rows_judged, sized_by}
use Rattle.outgoing.specs.code.Glance.{PlainAs, Plain, PlainRows, PlainEnds, FitsPlainly}
use Rattle.outgoing.specs.declared.Packed.{Packed}
use Rattle.outgoing.proofs.Carried.{clean_present}
use Rattle.outgoing.proofs.Walked.{size_by, size_end, good_more, good_end, judged_more, judged_end, words_more, words_end}
use Rattle.std.specs.Prelude.{Option, IfSome}
use Rattle.std.proofs.lemmas.Option.{IfSome_then}

-- an extended height: a code within reach is not too wide for its length
reach_narrow : (n c : ℕ) → 2 ≤ n → 2 * c ≤ 40900 * per_two_metres n → c < 2 ^ (8 * n)
reach_narrow n c some h =
    let k : 8 * n ≡ 8 * n - 16 + 16 = omega arith in
    let e : 2 ^ (8 * n) ≡ per_two_metres n * 2 ^ 16 = ap (λ m. 2 ^ m) k ∙ pow-add 2 (8 * n - 16) 16 in
    omega (arith, e, pow_pos (8 * n - 16))

height_tag : (r : RowWords) → is_extended r.tag ≡ true → tag_good r.tag ≡ true
height_tag r x =
    let e = extended_in r.tag x in
    rw (lt-ltb 0 r.tag (omega (arith, e.0)), lt-ltb r.tag 2097152 (omega (arith, e.1)))

module _ (r : RowWords) (x : is_extended r.tag ≡ true) (kind : r.kind ≡ 1) (reach : in_reach (part_length r.part) r.code ≡ true) where
  reach_good : code_good r.tag (part_length r.part) r.code ≡ true
  unfolding in_reach
  reach_good =
      let n : ℕ = part_length r.part in
      let rest = both_right (leb 2 n) _ reach in
      let small = reach_narrow n r.code (leb-true 2 n (both_left (leb 2 n) _ reach)) (leb-true _ _ (both_right (leb n 4) _ rest)) in
      let other : r.tag ≡ 1 → ⊥ = λ e. omega (arith, (extended_in r.tag x).0) in
      rw (ne_eqb r.tag 1 other, lt-ltb r.code (2 ^ (8 * n)) small)

  pub height_plain : (room bytes : ℕ) → bytes ≡ row_size r → PlainAs (shape_of r.tag) room r bytes
  unfolding row_good in_reach
  height_plain room bytes size =
      let n : ℕ = part_length r.part in
      let shape = extended_shape r.tag x in
      let some = ne_eqb n 0 (λ z. omega (arith, leb-true 2 n (both_left (leb 2 n) _ reach))) in
      let allowed = rw shape at (reach_allowed r.tag x n r.code reach) in
      let coded : code_allowed r.tag n r.code ≡ true = extended-code r.tag x n r.code ∙ rw some reach in
      record {
        good = rw (shape, kind, some) (both_true _ _ (height_tag r x) (both_true _ _ allowed reach_good));
        right = rw (shape, coded, some, allowed);
        size = size;
      }

-- a row of some bytes
has_bytes : (s : Shape) (n : ℕ) → (n ≡ 0 → ⊥) → is_empty s n ≡ false
has_bytes Text n some = ne_eqb n 0 some
has_bytes (Number least most marked) n some = ne_eqb n 0 some
has_bytes Absent n some = refl

pub value_plain : (s : Shape) (room : ℕ) (r : RowWords) (bytes : ℕ) → (part_length r.part ≡ 0 → ⊥) → value_row_good s room r ≡ true
    → shape_allows s (part_length r.part) ≡ true → code_allowed r.tag (part_length r.part) r.code ≡ true → bytes ≡ row_size r → PlainAs s room r bytes
unfolding row_good value_row_good
value_plain s room r bytes some good allowed coded size =
    let full = has_bytes s (part_length r.part) some in
    record { good = rw full good; right = rw (full, allowed, coded); size = size }

-- a row, known and the first of its tag, or carried
module _ (K seen : TagSet) (room : ℕ) (r : RowWords) where
  known_plain : {bytes : ℕ} (s : Shape) → s ≡ shape_of r.tag → holds K r.tag ≡ true → holds seen r.tag ≡ false
      → PlainAs s room r bytes → Plain K seen room r bytes
  unfolding shape_for row_fault
  known_plain s e k first p =
      record {
        good = rw (k, ← e) p.good;
        right = rw (k, first, ← e) p.right;
        size = p.size;
      }

  -- the same where that is all that an answer says
  pub known_some : (s : Shape) → s ≡ shape_of r.tag → holds K r.tag ≡ true → holds seen r.tag ≡ false
      → (size : Option ℕ) → IfSome size (PlainAs s room r) → IfSome size (Plain K seen room r)
  known_some s e k first size p = IfSome_then size p (λ b q. known_plain s e k first q)

  pub carried_plain : {bytes : ℕ} → holds K r.tag ≡ false → value_row_good Absent room r ≡ true → bytes ≡ row_size r → Plain K seen room r bytes
  unfolding shape_for row_fault row_good value_row_good
  carried_plain k g e = record { good = rw k g; right = rw k; size = e }

  -- its bit is among the known tags seen just where the rows' words get it
  pub plain_words : {bytes : ℕ} → Words K → Words seen → Plain K seen room r bytes
      → with_row is_present (meet seen K) r ≡ meet (with_tag seen r.tag) K
  plain_words k s p = rw (clean_present K seen room r p.good p.right) (sym (meet_with seen K s k r.tag))

-- a walk over the rows, each of which was plainly right so far
module _ (K : TagSet) (room count : ℕ) (words : List ℕ) where
  pub record Walks (n : ℕ) (seen : TagSet) (items : ℕ) : Type 0 where
    pub good : right_rows (holds K) room n (rows_in n (count - n) words) ≡ right_rows (holds K) room 0 (rows_in 0 count words)
    pub right : rows_judged K seen n (rows_in n (count - n) words) ≡ rows_judged K no_tags 0 (rows_in 0 count words)
    pub size : items + rows_size (rows_in n (count - n) words) ≡ rows_size (rows_in 0 count words)
    pub present : words_from is_present (meet seen K) (rows_in n (count - n) words) ≡ present_in (rows_in 0 count words)
    pub known : Words K
    pub set : Words seen

  pub walks_begin : Words K → Walks 0 no_tags 0
  unfolding present_in
  walks_begin k =
      record {
        good = rw sub-zero;
        right = rw sub-zero;
        size = rw sub-zero (zero-add _);
        present = rw (sub-zero, meet_none);
        known = k;
        set = no_words;
      }

  pub walks_more : {n : ℕ} {seen : TagSet} {items : ℕ} → Walks n seen items → n < count → (r : RowWords) → r ≡ row_at words n
      → {bytes : ℕ} → Plain K seen room r bytes → Walks (n + 1) (with_tag seen r.tag) (items + bytes)
  walks_more {n} {seen} {items} w h r same {bytes} p =
      let more = size_by words count n h r same bytes p.size in
      record {
        good = sym (good_more words count n h r same (holds K) room _ refl p.good) ∙ w.good;
        right = sym (judged_more words count n h r same K seen (sym p.right)) ∙ w.right;
        size = omega (arith, w.size, more);
        present = rw (← plain_words K seen room r w.known w.set p) (sym (words_more words count n h r same _) ∙ w.present);
        known = w.known;
        set = with_words seen w.set r.tag;
      }

  pub walks_end : {n : ℕ} {seen : TagSet} {items : ℕ} → Walks n seen items → count ≤ n → PlainRows K room (rows_in 0 count words) seen items
  walks_end {n} {seen} {items} w h =
      record {
        good = sym w.good ∙ good_end words count n (holds K) room h;
        right = sym w.right ∙ judged_end words count n K seen h;
        size = omega (arith, w.size, size_end words count n h);
        words = sym w.present ∙ words_end words count n _ h;
      }

-- the whole table
pub all_plain : (K : TagSet) (h : Option TagSet) (room count : ℕ) (words : List ℕ) {seen : TagSet} {items : ℕ} {p : Packed}
    → holds seen 65 ≡ true → agrees h (meet seen K) ≡ true → PlainRows K room (rows_in 0 count words) seen items → PlainEnds count words items p
    → FitsPlainly K h room count words p
all_plain K h room count words {p = p} version agreed rows ends =
    let packed : p ≡ packed_by (rows_size (rows_in 0 count words)) = ends.packed ∙ ap packed_by rows.size in
    let judged = rw version at rows.right in
    let fits : sized_by K count words p ≡ given p = rw (ends.small, ends.right, judged) in
    record { good = rows.good; fits = rw (rows.words, agreed) (ap (sized_by K count words) (sym packed) ∙ fits) }
