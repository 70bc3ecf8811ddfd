-- The items that the walk finds are the items that fill the bytes, and the other way round.
-- Assumes nothing.
use Prim.Native.Nat.{ℕ, zero, suc, ◌+◌, ◌<◌, ◌≤◌}
use native.Mathlib.Omega.{arith}
use mathlib.Core.Path.{◌≡◌, refl, ap, sym, ◌∙◌, subst}
use mathlib.Core.Bool.{false}
use mathlib.Core.List.{List, [], ◌∷◌, ◌++◌, append_assoc}
use lib.ListN.{length, take, drop, length-append, length-take, length-drop, take-append-drop}
use lib.Seq.{take_at, drop_at, drop-drop}
use lib.Dec.{ltb, leb}
use borrow.Author.Tests.{ltb-false, leb-true, lt-ltb, le-leb}
use Rattle.base.proofs.Cases.{by_bool, never}
use Rattle.refusal.specs.Answer.{Answer, given, refused}
use Rattle.number.specs.Stored.{Bytes}
use Rattle.number.proofs.Laws.{bytes_drop}
use Rattle.ber.specs.Read.{Read, got, broken, read_tag, read_length}
use Rattle.ber.specs.Written.{tag_bytes}
use Rattle.ber.specs.Forms.{LengthForm}
use Rattle.ber.proofs.Laws.{TagRead, tag_read, tag_written, LengthRead, length_read, form_read, form_some}
use Rattle.packet.specs.Pieces.{Piece, Item, Step, no_tag, no_length, one, after_length, after_tag, read_item, before, item_at, onward, walk}
use Rattle.packet.specs.Allowed.{head_of, ItemsOf, no_more, another}

-- an item that is read: its tag, a form of its length, and its bytes
record ItemRead (l : List ℕ) (t h n : ℕ) : Type 0 where
  some : 0 < t
  small : t < 2097152
  inside : h + n ≤ length l
  form : List ℕ
  formed : LengthForm n form
  head : h ≡ length (tag_bytes t) + length form
  whole : l ≡ tag_bytes t ++ (form ++ drop h l)

item_read : (l : List ℕ) (t h n : ℕ) → Bytes l → read_item l ≡ one t h n → ItemRead l t h n
unfolding read_item
item_read l t h n by e = tagged (read_tag l) refl e
  where
    lengthed : (u s : ℕ) → TagRead l u s → (x : Read) → read_length (drop s l) ≡ x → after_length (length l) u s x ≡ one t h n → ItemRead l t h n
    lengthed u s r broken f g = never (cc)
    lengthed u s r (got m k) f g =
        by_bool (leb (s + k + m) (length l))
        (λ b.
        let g' : one u (s + k) m ≡ one t h n = rw b at g in
        let eu : u ≡ t = cc in
        let eh : s + k ≡ h = cc in
        let em : m ≡ n = cc in
        let q : LengthRead (drop s l) m k = length_read (drop s l) m k (bytes_drop s by) f in
        let el : length (take k (drop s l)) ≡ k = rw (length-take k (drop s l)) (omega (arith, q.inside)) in
        let ew : drop s l ≡ take k (drop s l) ++ drop (s + k) l = sym (rw (← (drop-drop k s l)) (take-append-drop k (drop s l))) in
        rw (← eu, ← eh, ← em) (record {
          some = r.some;
          small = r.small;
          inside = leb-true _ _ b;
          form = take k (drop s l);
          formed = q.form;
          head = omega (arith, r.size, el);
          whole = r.same ∙ ap (λ x. tag_bytes u ++ x) ew;
        }))
        (λ b. let g' : no_length u ≡ one t h n = rw b at g in never (cc))

    tagged : (x : Read) → read_tag l ≡ x → after_tag l x ≡ one t h n → ItemRead l t h n
    tagged broken f g = never (cc)
    tagged (got u s) f g = lengthed u s (tag_read l u s by f) (read_length (drop s l)) refl g

-- the items fill the list, and there are at most n
pub record Walked (n at : ℕ) (l : List ℕ) (is : List Item) : Type 0 where
  pub items : ItemsOf at l is
  pub few : length is ≤ n

no_bytes : (l : List ℕ) → length l ≤ 0 → l ≡ []
no_bytes [] h = refl
no_bytes (a ∷ l) h = absurd (omega arith)

none_walked : (n at : ℕ) (l : List ℕ) (is : List Item) → ltb 0 (length l) ≡ false → given [] ≡ given is → Walked n at l is
none_walked n at l is b e =
    let f : [] ≡ is = cc in
    rw (← f, no_bytes l (ltb-false _ _ b)) (record { items = no_more; few = omega arith })

one_walked : (n at : ℕ) (l : List ℕ) (t h m : ℕ) (is : List Item) → Bytes l → read_item l ≡ one t h m
    → Walked n (at + (h + m)) (drop (h + m) l) is → Walked (suc n) at l (item_at at l t h m ∷ is)
one_walked n at l t h m is by e w =
    let r : ItemRead l t h m = item_read l t h m by e in
    let v : List ℕ = take m (drop h l) in
    let c : Piece = record { tag = t; value = v } in
    let ev : length v ≡ m = rw (length-take m (drop h l), length-drop h l) (omega (arith, r.inside)) in
    let ed : drop h l ≡ v ++ drop (h + m) l = sym (rw (← (drop-drop m h l)) (take-append-drop m (drop h l))) in
    let ew : l ≡ tag_bytes t ++ (r.form ++ (v ++ drop (h + m) l)) = r.whole ∙ ap (λ x. tag_bytes t ++ (r.form ++ x)) ed in
    let ea : at + (h + m) ≡ at + (head_of c r.form + length v) = omega (arith, r.head, ev) in
    let rest : ItemsOf (at + (head_of c r.form + length v)) (drop (h + m) l) is = subst (λ x. ItemsOf x (drop (h + m) l) is) ea w.items in
    let i = another {at = at} c r.form (drop (h + m) l) r.some r.small (subst (λ x. LengthForm x r.form) (sym ev) r.formed) rest in
    let i' = subst (λ x. ItemsOf at x (record { start = at; place = at + head_of c r.form; piece = c } ∷ is)) (sym ew) i in
    record {
      items = subst (λ x. ItemsOf at l (record { start = at; place = at + x; piece = c } ∷ is)) (sym r.head) i';
      few = omega (arith, w.few);
    }

pub walk_items : (n at : ℕ) (l : List ℕ) (is : List Item) → Bytes l → walk n at l ≡ given is → Walked n at l is
unfolding walk
walk_items zero at l is by e =
    by_bool (ltb 0 (length l))
    (λ b. let g : refused 6 at 0 ≡ given is = rw b at e in never (cc))
    (λ b. none_walked zero at l is b (rw b at e))
walk_items (suc n) at l is by e =
    by_bool (ltb 0 (length l))
    (λ b. stepped (λ a r js. walk_items n a r js) (read_item l) refl (rw b at e))
    (λ b. none_walked (suc n) at l is b (rw b at e))
  where
    pushed : (t h m : ℕ) → read_item l ≡ one t h m → (w : Answer (List Item))
        → ((js : List Item) → w ≡ given js → Walked n (at + (h + m)) (drop (h + m) l) js)
        → before (item_at at l t h m) w ≡ given is → Walked (suc n) at l is
    pushed t h m f (refused r a u) rest g = never (cc)
    pushed t h m f (given js) rest g =
        let q : item_at at l t h m ∷ js ≡ is = cc in
        rw (← q) (one_walked n at l t h m js by f (rest js refl))

    stepped : ((a : ℕ) (r : List ℕ) (js : List Item) → Bytes r → walk n a r ≡ given js → Walked n a r js) → (x : Step) → read_item l ≡ x
        → onward (λ a r. walk n a r) at l x ≡ given is → Walked (suc n) at l is
    stepped rest no_tag f g = never (cc)
    stepped rest (no_length t) f g = never (cc)
    stepped rest (one t h m) f g =
        pushed t h m f (walk n (at + (h + m)) (drop (h + m) l)) (λ js. rest _ _ js (bytes_drop (h + m) by)) g

-- an item that stands there is read
module _ (c : Piece) (form rest : List ℕ) where
  -- a piece, its length in a form, and what follows
  abbrev pub piece_bytes : List ℕ
  piece_bytes = tag_bytes c.tag ++ (form ++ (c.value ++ rest))

  pub piece_length : length piece_bytes ≡ head_of c form + length c.value + length rest
  piece_length = simp length-append (omega arith)

  pub after_head : drop (head_of c form) piece_bytes ≡ c.value ++ rest
  after_head =
      let e : piece_bytes ≡ (tag_bytes c.tag ++ form) ++ (c.value ++ rest) = simp append_assoc in
      rw e (drop_at (tag_bytes c.tag ++ form) (c.value ++ rest) _ (length-append (tag_bytes c.tag) form))

  pub after_piece : drop (head_of c form + length c.value) piece_bytes ≡ rest
  after_piece = rw (← (drop-drop (length c.value) (head_of c form) piece_bytes), after_head) (drop_at c.value rest _ refl)

  piece_read : 0 < c.tag → c.tag < 2097152 → LengthForm (length c.value) form
      → read_item piece_bytes ≡ one c.tag (head_of c form) (length c.value)
  unfolding read_item
  piece_read some small f =
      let tb : List ℕ = tag_bytes c.tag in
      rw (
        tag_written c.tag (form ++ (c.value ++ rest)) some small,
        drop_at tb (form ++ (c.value ++ rest)) (length tb) refl,
        form_read f (c.value ++ rest),
        le-leb (head_of c form + length c.value) (length piece_bytes) (omega (arith, piece_length)),
      )

walk_none : (n at : ℕ) → walk n at [] ≡ given []
unfolding walk
walk_none zero at = refl
walk_none (suc n) at = refl

walk_one : (n at : ℕ) (l : List ℕ) (t h m : ℕ) → 0 < length l → read_item l ≡ one t h m
    → walk (suc n) at l ≡ before (item_at at l t h m) (walk n (at + (h + m)) (drop (h + m) l))
unfolding walk
walk_one n at l t h m k e = rw (lt-ltb 0 (length l) k, e)

pub items_walk : {n at : ℕ} {l : List ℕ} {is : List Item} → ItemsOf at l is → length is ≤ n → walk n at l ≡ given is
items_walk {n} {at} no_more k = walk_none n at
items_walk {n = zero} (another c form rest some small f i) k = absurd (omega arith)
items_walk {n = suc n} {at} (another c form rest some small f i) k =
    walk_one n at (piece_bytes c form rest) _ _ _ (omega (arith, piece_length c form rest, form_some f)) (piece_read c form rest some small f)
    ∙ rw (after_piece c form rest, after_head c form rest, take_at c.value rest _ refl, items_walk {n = n} i (omega arith))

-- where items end that begin at a place
abbrev pub end_of : ℕ → List Item → ℕ
end_of at [] = at
end_of at (i ∷ is) = end_of (i.place + length i.piece.value) is

pub items_end : {at : ℕ} {l : List ℕ} {is : List Item} → ItemsOf at l is → end_of at is ≡ at + length l
items_end no_more = omega arith
items_end (another {at} {is} c form rest some small f i) =
    let e : at + head_of c form + length c.value ≡ at + (head_of c form + length c.value) = omega arith in
    rw e (omega (arith, items_end i, piece_length c form rest))

pub end_last : (at : ℕ) (front : List Item) (z : Item) → end_of at (front ++ (z ∷ [])) ≡ z.place + length z.piece.value
end_last at [] z = refl
end_last at (i ∷ front) z = end_last (i.place + length i.piece.value) front z
