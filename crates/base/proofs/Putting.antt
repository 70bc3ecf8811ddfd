-- Bytes put at a place of a list, one part after another; and what is left where there is no room.
-- Assumes nothing.
use Prim.Native.Nat.{ℕ, ◌+◌, ◌-◌, ◌<◌, ◌≤◌}
use native.Mathlib.Omega.{arith}
use native.Mathlib.Nat.{add-zero, zero-add}
use native.Mathlib.Numerals.{add-one}
use mathlib.Core.Path.{◌≡◌, refl, ap, sym, ◌∙◌}
use mathlib.Core.List.{List, [], ◌∷◌, ◌++◌, append_assoc}
use lib.ListN.{length, get_or, take, drop, set, length-append, length-drop, length-set, take-append-drop}
use lib.Seq.{length-take-le, drop-drop, take_at, drop_at, take-suc, set_split}
use borrow.Rule.Slice.PartMut.{mid_of, put_mid}
use borrow.Author.Tests.{le-leb, lt-leb}
use Rattle.base.specs.Putting.{put_into, put_count, Puts, Room, Wrote}

pub put_room : (o : List ℕ) (at : ℕ) (bs : List ℕ) → at + length bs ≤ length o → put_into o at bs ≡ take at o ++ (bs ++ drop (at + length bs) o)
unfolding put_into
put_room o at bs h = rw (le-leb _ _ h)

pub put-count : (o : List ℕ) (at : ℕ) (bs : List ℕ) → at + length bs ≤ length o → put_count o at bs ≡ length bs
unfolding put_count
put-count o at bs h = rw (le-leb _ _ h)

pub put_length : (o : List ℕ) (at : ℕ) (bs : List ℕ) → at + length bs ≤ length o → length (put_into o at bs) ≡ length o
put_length o at bs h =
    rw (put_room o at bs h, length-append, length-append, length-take-le at o (omega arith), length-drop) (omega arith)

module _ (o : List ℕ) (at : ℕ) where
  -- what stands before the end of a run, and after it
  module _ (bs : List ℕ) (h : at + length bs ≤ length o) where
    cut : put_into o at bs ≡ take at o ++ bs ++ drop (at + length bs) o
    cut = put_room o at bs h ∙ sym (append_assoc (take at o) bs (drop (at + length bs) o))

    seam : length (take at o ++ bs) ≡ at + length bs
    seam = length-append (take at o) bs ∙ ap (λ n. n + length bs) (length-take-le at o (omega arith))

    pub front : take (at + length bs) (put_into o at bs) ≡ take at o ++ bs
    front = ap (take (at + length bs)) cut ∙ take_at (take at o ++ bs) (drop (at + length bs) o) (at + length bs) seam

    pub back : drop (at + length bs) (put_into o at bs) ≡ drop (at + length bs) o
    back = ap (drop (at + length bs)) cut ∙ drop_at (take at o ++ bs) (drop (at + length bs) o) (at + length bs) seam

  -- a run, and then another right after it
  pub put_more : (bs cs : List ℕ) → at + length bs + length cs ≤ length o → put_into (put_into o at bs) (at + length bs) cs ≡ put_into o at (bs ++ cs)
  put_more bs cs h =
      let first : at + length bs ≤ length o = omega arith in
      let m : ℕ = at + length bs in
      let k : at + length (bs ++ cs) ≡ m + length cs = rw length-append (omega arith) in
      let rest : drop (m + length cs) (put_into o at bs) ≡ drop (m + length cs) o =
      sym (drop-drop (length cs) m (put_into o at bs)) ∙ (ap (drop (length cs)) (back bs first) ∙ drop-drop (length cs) m o) in
      put_room (put_into o at bs) m cs (rw (put_length o at bs first) h)
      ∙ (ap (λ l. l ++ (cs ++ drop (m + length cs) (put_into o at bs))) (front bs first)
      ∙ (ap (λ l. take at o ++ bs ++ (cs ++ l)) rest
      ∙ (append_assoc (take at o) bs (cs ++ drop (m + length cs) o)
      ∙ (ap (λ l. take at o ++ l) (sym (append_assoc bs cs (drop (m + length cs) o)))
      ∙ (ap (λ n. take at o ++ (bs ++ cs ++ drop n o)) (sym k)
      ∙ sym (put_room o at (bs ++ cs) (rw k h)))))))

  -- other bytes, as many, put over a run
  pub put_again : (bs cs : List ℕ) → length bs ≡ length cs → at + length bs ≤ length o → put_into (put_into o at bs) at cs ≡ put_into o at cs
  put_again bs cs e h =
      let first : take at (put_into o at bs) ≡ take at o =
      ap (take at) (put_room o at bs h) ∙ take_at (take at o) (bs ++ drop (at + length bs) o) at (length-take-le at o (omega arith)) in
      let rest : drop (at + length cs) (put_into o at bs) ≡ drop (at + length cs) o = rw e at (back bs h) in
      put_room (put_into o at bs) at cs (rw (put_length o at bs h, ← e) h)
      ∙ (ap (λ l. l ++ (cs ++ drop (at + length cs) (put_into o at bs))) first
      ∙ (ap (λ l. take at o ++ (cs ++ l)) rest ∙ sym (put_room o at cs (rw (← e) h))))

  pub put_nothing : at ≤ length o → put_into o at [] ≡ o
  put_nothing h = put_room o at [] (omega arith) ∙ rw add-zero (take-append-drop at o)

  -- a part of the list is lent and filled
  module _ (n : ℕ) (h : at + n ≤ length o) where
    pub part-length : length (mid_of at (at + n - at) o) ≡ n
    part-length =
        let k : at + n - at ≡ n = omega arith in
        rw k (length-take-le n (drop at o) (rw length-drop (omega arith)))

    pub part_put : (bs : List ℕ) → length bs ≡ n → put_mid at (at + n - at) o bs ≡ put_into o at bs
    part_put bs e =
        let k : at + n - at ≡ n = omega arith in
        rw (k, drop-drop n at o, put_room o at bs (rw e h), e)

-- one byte, and one byte more
pub put_one : (o : List ℕ) (at b : ℕ) → at < length o → set o at b ≡ put_into o at (b ∷ [])
put_one o at b h = set_split o at b h ∙ sym (put_room o at (b ∷ []) (omega arith) ∙ rw add-one)

pub put_next : (o : List ℕ) (at : ℕ) (bs : List ℕ) (b : ℕ) → at + length bs < length o
    → set (put_into o at bs) (at + length bs) b ≡ put_into o at (bs ++ (b ∷ []))
put_next o at bs b h =
    put_one (put_into o at bs) (at + length bs) b (rw (put_length o at bs (omega arith)) h) ∙ put_more o at bs (b ∷ []) (omega arith)

-- the first bytes of a list copied one after another
pub record Copying (o : List ℕ) (at : ℕ) (l : List ℕ) (size : ℕ) (out : List ℕ) (i : ℕ) : Type 0 where
  pub few : i ≤ size
  pub room : at + size ≤ length o
  pub enough : size ≤ length l
  pub kept : length out ≡ length o
  pub copied : out ≡ put_into o at (take i l)

module _ {o : List ℕ} {at : ℕ} {l : List ℕ} {size : ℕ} where
  pub copy_start : at + size ≤ length o → size ≤ length l → Copying o at l size o 0
  copy_start h k = record { few = omega arith; room = h; enough = k; kept = refl; copied = sym (put_nothing o at (omega arith)) }

  module _ {out : List ℕ} {i : ℕ} (c : Copying o at l size out i) where
    pub copy_next : (b : ℕ) → b ≡ get_or l i 0 → i < size → Copying o at l size (set out (at + i) b) (i + 1)
    copy_next b e h =
        let k : length (take i l) ≡ i = length-take-le i l (omega arith) in
        let next : set (put_into o at (take i l)) (at + i) (get_or l i 0) ≡ put_into o at (take i l ++ (get_or l i 0 ∷ [])) =
        rw k at (put_next o at (take i l) (get_or l i 0) (rw k (omega arith))) in
        record {
          few = omega arith;
          room = c.room;
          enough = c.enough;
          kept = length-set out (at + i) b ∙ c.kept;
          copied = rw (c.copied, e, add-one, take-suc l i 0 (omega arith)) next;
        }

    pub copy_done : size ≤ i → out ≡ put_into o at (take size l)
    copy_done h = let e : i ≡ size = omega arith in rw e at c.copied

-- at the front
pub put_front : (o bs : List ℕ) → length bs ≤ length o → put_into o 0 bs ≡ bs ++ drop (length bs) o
put_front o bs h = put_room o 0 bs (rw zero-add h) ∙ rw zero-add

-- one outcome
pub puts_once : {o : List ℕ} {at : ℕ} {bs : List ℕ} {n m : ℕ} {p q : List ℕ} → Puts o at bs n p → Puts o at bs m q → (n ≡ m) × (p ≡ q)
puts_once x y = (x.counted ∙ sym y.counted, x.after ∙ sym y.after)

-- so many bytes put, or none
module _ (o : List ℕ) (at n : ℕ) (bs : List ℕ) (l : length bs ≡ n) where
  pub no_room : length o < at + n → Puts o at bs 0 o
  unfolding put_into put_count
  no_room h = let k : length o < at + length bs = rw l h in record { counted = rw (lt-leb _ _ k); after = rw (lt-leb _ _ k) }

  pub all_put : at + n ≤ length o → (o' : List ℕ) → o' ≡ put_into o at bs → Puts o at bs n o'
  all_put h o' e = record { counted = sym (put-count o at bs (rw l h) ∙ l); after = e }

  pub all_wrote : at + n ≤ length o → (o' : List ℕ) → o' ≡ put_into o at bs → Wrote o at bs (at + n) o'
  all_wrote h o' e = record { after = omega arith; inside = h; output = e }

-- where there is room
module _ {o : List ℕ} {at : ℕ} {bs : List ℕ} where
  pub puts_wrote : {n : ℕ} {o' : List ℕ} → Room o at bs → Puts o at bs n o' → Wrote o at bs (at + n) o'
  puts_wrote {n} h p =
      let e : n ≡ length bs = p.counted ∙ put-count o at bs h.fits in
      record { after = ap (λ k. at + k) e; inside = omega arith; output = p.after }

  -- what putting bs will come to
  pub to_write : Room o at bs → Wrote o at bs (at + length bs) (put_into o at bs)
  to_write h = record { after = refl; inside = h.fits; output = refl }

  module _ {n : ℕ} {o' : List ℕ} (w : Wrote o at bs n o') where
    pub wrote_length : length o' ≡ length o
    wrote_length = ap length w.output ∙ put_length o at bs (omega arith)

    pub wrote_room : Room o at bs
    wrote_room = record { fits = omega arith }

-- a part, and then the rest
module _ {o : List ℕ} {at : ℕ} {x : List ℕ} where
  pub room_first : (y : List ℕ) → Room o at (x ++ y) → Room o at x
  room_first y h = record { fits = omega (arith, length-append x y, h.fits) }

  module _ {m : ℕ} {o₁ : List ℕ} (w : Wrote o at x m o₁) where
    pub room_after : {y : List ℕ} → Room o at (x ++ y) → Room o₁ m y
    room_after {y} h = record { fits = omega (arith, length-append x y, h.fits, wrote_length w) }

    then_put : (y : List ℕ) → m + length y ≤ length o → put_into o₁ m y ≡ put_into o at (x ++ y)
    then_put y h = rw (w.output, w.after) (put_more o at x y (omega arith))

    pub wrote_then : {y : List ℕ} {n : ℕ} {o₂ : List ℕ} → Wrote o₁ m y n o₂ → Wrote o at (x ++ y) n o₂
    wrote_then {y} v =
        let kept : length o₁ ≡ length o = wrote_length w in
        record {
          after = omega (arith, length-append x y);
          inside = omega arith;
          output = v.output ∙ then_put y (omega arith);
        }

    -- the rest of what is to be put
    pub wrote_rest : {y : List ℕ} {n : ℕ} {o₂ : List ℕ} → Wrote o at (x ++ y) n o₂ → Wrote o₁ m y n o₂
    wrote_rest {y} v =
        let kept : length o₁ ≡ length o = wrote_length w in
        let both : length (x ++ y) ≡ length x + length y = length-append x y in
        record { after = omega arith; inside = omega arith; output = v.output ∙ sym (then_put y (omega arith)) }

-- the end of a run put again
pub wrote_over : {o : List ℕ} {at : ℕ} {u : List ℕ} {n : ℕ} {o₁ : List ℕ} {m : ℕ} {s : List ℕ} {n' : ℕ} {o₂ : List ℕ} (k : ℕ)
    → m ≡ at + k → length u ≡ k + length s → Wrote o at u n o₁ → Wrote o₁ m s n' o₂ → Wrote o at (take k u ++ s) n' o₂
wrote_over {o} {at} {u} {s = s} k e l w v =
    let f : List ℕ = take k u in
    let t : List ℕ = drop k u in
    let ef : length f ≡ k = length-take-le k u (omega arith) in
    let et : length t ≡ length s = rw length-drop (omega arith) in
    let kept : length (put_into o at f) ≡ length o = put_length o at f (omega arith) in
    let parts : put_into o at u ≡ put_into (put_into o at f) (at + k) t =
    ap (put_into o at) (sym (take-append-drop k u)) ∙ sym (rw ef at (put_more o at f t (omega arith))) in
    let over : put_into (put_into o at u) (at + k) s ≡ put_into o at (f ++ s) =
    ap (λ x. put_into x (at + k) s) parts
    ∙ (put_again (put_into o at f) (at + k) t s et (omega arith) ∙ rw ef at (put_more o at f s (omega arith))) in
    record {
      after = v.after ∙ rw (e, length-append, ef) (omega arith);
      inside = omega arith;
      output = v.output ∙ rw (w.output, e) over;
    }

pub wrote_nothing : {o : List ℕ} {at n : ℕ} {o' : List ℕ} → Wrote o at [] n o' → (n ≡ at) × (o' ≡ o)
wrote_nothing {o} {at} w = (w.after ∙ add-zero at, w.output ∙ put_nothing o at (omega arith))

-- the same bytes by another name
pub room_of : {o : List ℕ} {at : ℕ} {x y : List ℕ} → x ≡ y → Room o at y → Room o at x
room_of e h = rw e h

pub wrote_as : {o : List ℕ} {at : ℕ} {x y : List ℕ} {n : ℕ} {o' : List ℕ} → x ≡ y → Wrote o at x n o' → Wrote o at y n o'
wrote_as e w = rw (← e) w

pub puts_as : {o : List ℕ} {at : ℕ} {x y : List ℕ} {n : ℕ} {o' : List ℕ} → x ≡ y → Room o at y → Puts o at x n o' → Wrote o at y (at + n) o'
puts_as e h p = wrote_as e (puts_wrote (room_of e h) p)

-- at the front, by the size of the whole
pub front_room : {o bs : List ℕ} {size : ℕ} → size ≡ length bs → size ≤ length o → Room o 0 bs
front_room e h = record { fits = omega arith }
