-- What structure finds is what is formed: the checks in document 01's order, and the rules each by itself.
-- Assumes nothing.
use Prim.Native.Nat.{ℕ, ◌+◌, ◌≤◌}
use native.Mathlib.Omega.{arith}
use mathlib.Core.Path.{◌≡◌, refl, ap, sym, ◌∙◌, subst}
use mathlib.Core.List.{List, [], ◌∷◌, ◌++◌}
use lib.ListN.{length, take, drop, length-append, length-take, length-drop, take-append-drop}
use lib.Seq.{take_at, drop_at, drop-drop}
use lib.Dec.{ltb, eqb}
use borrow.Author.Tests.{ltb-false, le-ltb, eqb-true, eq-eqb}
use Rattle.refusal.specs.Answer.{given}
use Rattle.refusal.proofs.Answers.{not_given, given_same, passed, missed, then_given}
use Rattle.number.specs.Stored.{Bytes, value_of}
use Rattle.number.proofs.Laws.{bytes_drop}
use Rattle.ber.specs.Read.{Read, got, broken, read_length}
use Rattle.ber.specs.Forms.{LengthForm}
use Rattle.ber.proofs.Laws.{LengthRead, length_read, form_read}
use Rattle.checksum.specs.Sum.{checksum_of}
use Rattle.packet.specs.Pieces.{Item, walk}
use Rattle.packet.specs.Ends.{right_ends}
use Rattle.packet.specs.Structure.{key, same, last_of, outer_by, frame, ends_of, right_sum, last_sum, closed, structure}
use Rattle.packet.specs.Allowed.{ItemsOf, Formed}
use Rattle.packet.proofs.Keys.{same_eq, same_refl}
use Rattle.packet.proofs.Closing.{RightEnds, ends_right, right-ends}
use Rattle.laws.proofs.Items.{end_of, items_end, end_last, Walked, walk_items, items_walk}

pub length_key : length key ≡ 16
unfolding key
length_key = refl

-- the last item, after those in front of it
pub split_last : (i : Item) (is : List Item) → (front : List Item) × (i ∷ is ≡ front ++ (last_of i is ∷ []))
split_last i [] = ([], refl)
split_last i (j ∷ is) = let r = split_last j is in (i ∷ r.0, ap (λ x. i ∷ x) r.1)

last_after : (i : Item) (front : List Item) (z : Item) → last_of i (front ++ (z ∷ [])) ≡ z
last_after i [] z = refl
last_after i (j ∷ front) z = last_after j front z

module _ (p : List ℕ) (is : List Item) (by : Bytes p) where
  -- the packet's size, key and outer length, and the items that were found after them
  outer_formed : length p ≤ 8192 → take 16 p ≡ key → (n s : ℕ) → read_length (drop 16 p) ≡ got n s → length p ≡ 16 + s + n
      → (i : Item) (js : List Item) → walk 128 (16 + s) (drop (16 + s) p) ≡ given (i ∷ js) → RightEnds (ends_of p (i ∷ js))
      → value_of (last_of i js).piece.value ≡ checksum_of (take (last_of i js).place p)
      → Formed p (i ∷ js)
  outer_formed small ek n s er el i js ew ends es =
      let z : Item = last_of i js in
      let r : LengthRead (drop 16 p) n s = length_read (drop 16 p) n s (bytes_drop 16 by) er in
      let w : Walked 128 (16 + s) (drop (16 + s) p) (i ∷ js) = walk_items 128 (16 + s) (drop (16 + s) p) (i ∷ js) (bytes_drop (16 + s) by) ew in
      let ef : length (take s (drop 16 p)) ≡ s = rw (length-take s (drop 16 p)) (omega (arith, r.inside)) in
      let eb : n ≡ length (drop (16 + s) p) = omega (arith, length-drop (16 + s) p) in
      let ed : take s (drop 16 p) ++ drop (16 + s) p ≡ drop 16 p = rw (← (drop-drop s 16 p)) (take-append-drop s (drop 16 p)) in
      record {
        small = small;
        form = take s (drop 16 p);
        body = drop (16 + s) p;
        whole = sym (ap (λ x. key ++ x) ed ∙ (ap (λ x. x ++ drop 16 p) (sym ek) ∙ take-append-drop 16 p));
        outer = subst (λ x. LengthForm x (take s (drop 16 p))) eb r.form;
        items = subst (λ x. ItemsOf (16 + x) (drop (16 + s) p) (i ∷ js)) (sym ef) w.items;
        few = w.few;
        first = i;
        others = js;
        begins = refl;
        time = ends.time;
        front = (split_last i js).0;
        last = z;
        closes = (split_last i js).1;
        checksum = ends.checksum;
        pair = ends.pair;
        sum = es;
      }

  -- what structure gives is formed
  pub structure_formed : structure p ≡ given is → Formed p is
  unfolding structure frame right_ends right_sum
  structure_formed e =
      let f = then_given (frame p) _ e in
      let w = then_given (walk 128 f.between (drop f.between p)) (closed p) f.second in
      let a = missed (ltb 8192 (length p)) _ 3 0 0 f.first in
      let b = passed (same (take 16 p) key) _ 4 0 0 a.1 in
      outer (ltb-false _ _ a.0) (same_eq (take 16 p) key b.0) f.between w.between w.first w.second (read_length (drop 16 p)) refl b.1
    where
      -- the items that were found, once the ends and the sum are right
      inner : length p ≤ 8192 → take 16 p ≡ key → (n s : ℕ) → read_length (drop 16 p) ≡ got n s → length p ≡ 16 + s + n
          → (js : List Item) → walk 128 (16 + s) (drop (16 + s) p) ≡ given js → closed p js ≡ given is → Formed p is
      inner h k n s f q [] u g = not_given g
      inner h k n s f q (i ∷ js) u g =
          let z : Item = last_of i js in
          let a = then_given (right_ends (ends_of p (i ∷ js))) _ g in
          let b = then_given (last_sum p (i ∷ js)) _ a.second in
          let c = passed (eqb (value_of z.piece.value) (checksum_of (take z.place p))) (given tt) 11 z.place 1 b.first in
          rw (← given_same b.second) (outer_formed h k n s f q i js u (ends_right (ends_of p (i ∷ js)) a.first) (eqb-true _ _ c.0))

      outer : length p ≤ 8192 → take 16 p ≡ key → (from : ℕ) (js : List Item) → walk 128 from (drop from p) ≡ given js → closed p js ≡ given is
          → (x : Read) → read_length (drop 16 p) ≡ x → outer_by p x ≡ given from → Formed p is
      outer h k from js u g broken f e = not_given e
      outer h k from js u g (got n s) f e =
          let a = passed (eqb (length p) (16 + s + n)) (given (16 + s)) 5 16 0 e in
          inner h k n s f (eqb-true _ _ a.0) js (ap (λ at. walk 128 at (drop at p)) (given_same a.1) ∙ u) g

-- what is formed is what structure gives
module _ (p : List ℕ) (is : List Item) (f : Formed p is) where
  closed_formed : closed p (f.first ∷ f.others) ≡ given (f.first ∷ f.others)
  unfolding right_sum
  closed_formed =
      let ez : last_of f.first f.others ≡ f.last =
      ap (last_of f.first) (sym f.begins ∙ f.closes) ∙ last_after f.first f.front f.last in
      let ends = right-ends (ends_of p (f.first ∷ f.others)) (record {
        time = f.time;
        checksum = ap (λ (i : Item). i.piece.tag) ez ∙ f.checksum;
        pair = ap (λ (i : Item). length i.piece.value) ez ∙ f.pair;
      }) in
      rw (ends, ez, eq-eqb _ _ f.sum)

  pub formed_length : length p ≡ 16 + length f.form + length f.body
  formed_length = ap length f.whole ∙ simp (length-append, length_key) (omega arith)

  after_key : drop 16 p ≡ f.form ++ f.body
  after_key = ap (drop 16) f.whole ∙ drop_at key (f.form ++ f.body) 16 length_key

  pub formed_body : drop (16 + length f.form) p ≡ f.body
  formed_body = rw (← (drop-drop (length f.form) 16 p), after_key) (drop_at f.form f.body _ refl)

  -- the checksum's value is the last two bytes
  pub formed_sum : f.last.place + 2 ≡ length p
  formed_sum =
      let at : ℕ = 16 + length f.form in
      omega (arith, items_end f.items, ap (end_of at) f.closes, end_last at f.front f.last, f.pair, formed_length)

  pub formed_structure : structure p ≡ given is
  unfolding structure frame
  formed_structure =
      let keyed : take 16 p ≡ key = ap (take 16) f.whole ∙ take_at key (f.form ++ f.body) 16 length_key in
      rw (
        le-ltb 8192 (length p) f.small,
        keyed,
        same_refl key,
        after_key,
        form_read f.outer f.body,
        eq-eqb _ _ formed_length,
        formed_body,
        items_walk f.items f.few,
      ) (rw f.begins closed_formed)
