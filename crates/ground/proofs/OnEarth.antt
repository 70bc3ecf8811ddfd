-- W-203's laws of corners: a latitude answered lies in -90 to 90 degrees, a longitude in -180 to below 180 and is the plain one modulo a turn; where
-- the plain point was in range it is the answer; of full corners only a longitude of exactly 180 degrees moves.
-- Assumes nothing.
use Prim.Native.Nat.{ℕ, zero, suc, ◌+◌, ◌*◌, ◌<◌, ◌≤◌}
use native.Mathlib.Omega.{arith}
use mathlib.Core.Path.{◌≡◌, refl, sym, ap, ◌∙◌}
use mathlib.Core.Bool.{true, false, ◌&&◌}
use mathlib.Core.Logic.{◌⊎◌, inl, inr, ⊎_elim}
use mathlib.Core.List.{List}
use lib.Dec.{ltb}
use lib.IntN.{ℤ, pos, negsuc, neg_ℤ, nat_abs, sub_ℕ, ◌+ℤ◌}
use lib.Signed.{mag, lt_z}
use borrow.Author.Tests.{lt-ltb, le-ltb, le-leb, ltb-true, ltb-false}
use Rattle.base.proofs.Cases.{by_bool, by_lt, by_eq, never, clash}
use Rattle.base.proofs.Every.{both_left, both_right}
use Rattle.refusal.specs.Answer.{given, map, answer_said}
use Rattle.refusal.proofs.Answers.{map_given}
use Rattle.tagset.specs.declared.TagSet.{TagSet}
use Rattle.catalogue.specs.Items.{groups, member, item_in, item_of}
use Rattle.catalogue.specs.declared.Item.{Item}
use Rattle.rows.specs.declared.RowWords.{RowWords}
use Rattle.packet.specs.Verdict.{received}
use Rattle.scale.specs.Scales.{beyond}
use Rattle.scale.proofs.Items.{neither_left, neither_right}
use Rattle.ground.specs.Values.{value_for}
use Rattle.ground.specs.Earth.{half_turn, beyond_pole, in_range, turn_for, brought_back}
use Rattle.ground.specs.Ground.{CornerSeen, no_corner, off_the_earth, on, point_of, sum_of, offset_coordinate, full_corner, offset_corner}
use Rattle.ground.specs.Ground.{otherwise, plain_corner, on_earth, corner_in, from_rows, corner_of}
use Rattle.ground.specs.Said.{corner_said}
use Rattle.ground.specs.declared.Value.{Value}
use Rattle.ground.specs.declared.Value.TheVariants.{Absent, Off, At}
use Rattle.ground.specs.declared.Point.{Point}
use Rattle.ground.specs.declared.Corner.{Corner}
use Rattle.ground.specs.declared.Corner.TheVariants as corner
use Rattle.ground.specs.code.Located.{item_with, Like}
use Rattle.ground.proofs.Values.{value_inside}
use Rattle.ground.proofs.Alike.{like_24, like_latitude, like_longitude, like_east}
use Rattle.ground.proofs.Earth.{Modulo, range_stays, back_in_range, back_modulo}
use Rattle.std.specs.Prelude.{Some, Result, Ok}
use Rattle.refusal.specs.declared.Refusal.{Refusal}

-- both ends alike: no farther from zero
within : (x : ℕ) (v : ℤ) → beyond (neg_ℤ (pos x)) (pos x) v ≡ false → nat_abs v ≤ x
within x (pos n) e = ltb-false x n (neither_right (lt_z (pos n) (neg_ℤ (pos x))) _ e)
within zero (negsuc n) e = clash e
within (suc x) (negsuc n) e = omega (arith, ltb-false x n (neither_left (ltb x n) _ e))

-- a value of a tag that is stored as u is, from -x to x
value_within : {t u width x : ℕ} (k : Like t u width) (i : Item) → item_of u ≡ Some i → i.low ≡ neg_ℤ (pos x) → i.high ≡ pos x
    → (rs : List RowWords) (v : ℤ) → value_for t rs ≡ At v → nat_abs v ≤ x
value_within {t} {u} {width} {x} k i e low high rs v f =
    let told : Some (item_with u k.group) ≡ Some i = sym k.other ∙ e in
    let same : item_with u k.group ≡ i = cc in
    let inside : beyond k.group.low k.group.high v ≡ false = value_inside (record { known = k.one; has_scale = k.scale }) v rs f in
    let from : k.group.low ≡ neg_ℤ (pos x) = ap (λ j. j.low) same ∙ low in
    let to : k.group.high ≡ pos x = ap (λ j. j.high) same ∙ high in
    within x v (rw (from, to) at inside)

latitude_within : {t : ℕ} → Like t 23 4 → (rs : List RowWords) (v : ℤ) → value_for t rs ≡ At v → nat_abs v ≤ 900000000
unfolding item_of item_in member groups
latitude_within k = value_within k _ refl refl refl

longitude_within : {t : ℕ} → Like t 24 4 → (rs : List RowWords) (v : ℤ) → value_for t rs ≡ At v → nat_abs v ≤ 1800000000
unfolding item_of item_in member groups
longitude_within k = value_within k _ refl refl refl

offset_within : {t : ℕ} → Like t 26 2 → (rs : List RowWords) (v : ℤ) → value_for t rs ≡ At v → nat_abs v ≤ 750000
unfolding item_of item_in member groups
offset_within k = value_within k _ refl refl refl

-- a sum is no farther from zero than both together
sub_far : (a b : ℕ) → nat_abs (sub_ℕ a b) ≤ a + b
sub_far a b =
    by_lt a b
    (λ l. rw (lt-ltb a b l) (omega arith))
    (λ l. rw (le-ltb a b l) (omega arith))

sum_far : (a b : ℤ) → nat_abs (a +ℤ b) ≤ nat_abs a + nat_abs b
sum_far (pos a) (pos b) = omega arith
sum_far (pos a) (negsuc b) = sub_far a (suc b)
sum_far (negsuc a) (pos b) = omega (arith, sub_far b (suc a))
sum_far (negsuc a) (negsuc b) = omega arith

-- the rows that a plain point is made of
pointed : (x y : Value) (a b : ℤ) → point_of x y ≡ on a b → (x ≡ At a) × (y ≡ At b)
pointed (At c) (At d) a b e = (ap At (cc), ap At (cc))
pointed Absent y a b e = never (cc)
pointed Off Absent a b e = never (cc)
pointed Off Off a b e = never (cc)
pointed Off (At d) a b e = never (cc)
pointed (At c) Absent a b e = never (cc)
pointed (At c) Off a b e = never (cc)

record Summed (x y : Value) (v : ℤ) : Type 0 where
  centre : ℤ
  offset : ℤ
  first : x ≡ At centre
  second : y ≡ At offset
  sum : v ≡ centre +ℤ offset

summed : (x y : Value) (v : ℤ) → sum_of x y ≡ At v → Summed x y v
summed (At c) (At d) v e = record { centre = c; offset = d; first = refl; second = refl; sum = cc }
summed Absent y v e = never (cc)
summed Off Absent v e = never (cc)
summed Off Off v e = never (cc)
summed Off (At d) v e = never (cc)
summed (At c) Absent v e = never (cc)
summed (At c) Off v e = never (cc)

decided : (f o : CornerSeen) (a b : ℤ) → otherwise f o ≡ on a b → (f ≡ on a b) ⊎ (o ≡ on a b)
decided no_corner o a b e = inr e
decided off_the_earth o a b e = never (cc)
decided (on c d) o a b e = inl e

few_far : (v : ℤ) → nat_abs v ≤ 1800750000 → mag v < 5400000000
few_far (pos n) h = omega (arith, h)
few_far (negsuc n) h = omega (arith, h)

in-range : (v : ℤ) → nat_abs v ≤ 1800000000 → (v ≡ half_turn → ⊥) → in_range v ≡ true
in-range (pos n) h ne = lt-ltb n 1800000000 (by_eq n 1800000000 (λ e. absurd (ne (ap pos e))) (λ e. omega (arith, h, e)))
in-range (negsuc n) h ne = rw (le-leb n 1799999999 (omega (arith, h)))

no_pole : (v : ℤ) → nat_abs v ≤ 900000000 → beyond_pole v ≡ false
no_pole (pos n) h = le-ltb 900000000 n h
no_pole (negsuc n) h = rw (le-ltb 899999999 n (omega (arith, h)))

-- the plain point, which is that of the full rows or that of the centre and the offset
module _ (k : ℕ) (rs : List RowWords) (a b : ℤ) where
  record Plain : Type 0 where
    some : 0 < k
    few : k < 5
    from : (full_corner k rs ≡ on a b) ⊎ (offset_corner k rs ≡ on a b)

  plain : plain_corner k rs ≡ on a b → Plain
  unfolding plain_corner
  plain e =
      by_bool (ltb 0 k && ltb k 5)
      (λ q. record {
        some = ltb-true 0 k (both_left (ltb 0 k) _ q);
        few = ltb-true k 5 (both_right (ltb 0 k) _ q);
        from = decided (full_corner k rs) (offset_corner k rs) a b (rw q at e);
      })
      (λ q. let f : no_corner ≡ on a b = rw q at e in never (cc))

  full_far : 0 < k → k < 5 → full_corner k rs ≡ on a b → (nat_abs a ≤ 900000000) × (nat_abs b ≤ 1800000000)
  unfolding full_corner
  full_far some few e =
      let p = pointed _ _ a b e in
      (latitude_within (like_latitude k some few) rs a p.0, longitude_within (like_longitude k some few) rs b p.1)

  -- no sum of a centre and an offset is farther than 0.075 degrees past 180, so one turn is enough
  offset_far : 0 < k → k < 5 → offset_corner k rs ≡ on a b → nat_abs b ≤ 1800750000
  unfolding offset_corner
  offset_far some few e =
      let p = pointed (offset_coordinate 23 (24 + 2 * k) rs) (offset_coordinate 24 (25 + 2 * k) rs) a b e in
      let s = summed (value_for 24 rs) (value_for (25 + 2 * k) rs) b p.1 in
      rw s.sum
      (omega (arith, sum_far s.centre s.offset, longitude_within like_24 rs _ s.first, offset_within (like_east k some few) rs _ s.second))

  pub plain_far : plain_corner k rs ≡ on a b → nat_abs b ≤ 1800750000
  plain_far e =
      let p = plain e in
      ⊎_elim (λ f. omega (arith, (full_far p.some p.few f).1)) (λ f. offset_far p.some p.few f) p.from

  -- a plain point is on the Earth with its longitude brought back, or it is beyond a pole
  pub brought-back : plain_corner k rs ≡ on a b → beyond_pole a ≡ false → corner_in k rs ≡ on a (brought_back b)
  unfolding corner_in
  brought-back e p = rw (e, p)

  pub past_pole : plain_corner k rs ≡ on a b → beyond_pole a ≡ true → corner_in k rs ≡ off_the_earth
  unfolding corner_in
  past_pole e p = rw (e, p)

  -- where the plain point was in range, nothing changed
  pub as_before : plain_corner k rs ≡ on a b → beyond_pole a ≡ false → in_range b ≡ true → corner_in k rs ≡ on a b
  as_before e p r = brought-back e p ∙ ap (on a) (range_stays b r)

  -- of full corners only a longitude of exactly 180 degrees moves
  full_plain : 0 < k → k < 5 → full_corner k rs ≡ on a b → plain_corner k rs ≡ on a b
  unfolding plain_corner
  full_plain some few e = rw (lt-ltb 0 k some, lt-ltb k 5 few, e)

  pub full_stays : 0 < k → k < 5 → full_corner k rs ≡ on a b → (b ≡ half_turn → ⊥) → corner_in k rs ≡ on a b
  full_stays some few e ne =
      let f = full_far some few e in
      as_before (full_plain some few e) (no_pole a f.0) (in-range b f.1 ne)

  pub full_moves : 0 < k → k < 5 → full_corner k rs ≡ on a b → b ≡ half_turn → corner_in k rs ≡ on a (neg_ℤ half_turn)
  unfolding turn_for
  full_moves some few e q =
      brought-back (full_plain some few e) (no_pole a (full_far some few e).0) ∙ rw q

-- missing comes before off the Earth: what lacks a row used is still missing
pub still_missing : (k : ℕ) (rs : List RowWords) → plain_corner k rs ≡ no_corner → corner_in k rs ≡ no_corner
unfolding corner_in
still_missing k rs e = rw e

-- and nothing else is
pub was_missing : (k : ℕ) (rs : List RowWords) → corner_in k rs ≡ no_corner → plain_corner k rs ≡ no_corner
unfolding corner_in
was_missing k rs = go (plain_corner k rs)
  where
    go : (c : CornerSeen) → on_earth c ≡ no_corner → c ≡ no_corner
    go no_corner e = refl
    go off_the_earth e = never (cc)
    go (on a b) e = by_bool (beyond_pole a) (λ p. let f : off_the_earth ≡ no_corner = rw p at e in never (cc))
        (λ p. let f : on a (brought_back b) ≡ no_corner = rw p at e in never (cc))

-- what a point that is answered is
pub record OnTheEarth (k : ℕ) (rs : List RowWords) (a b : ℤ) : Type 0 where
  pub latitude : beyond_pole a ≡ false
  pub longitude : in_range b ≡ true
  pub sum : ℤ
  pub was : plain_corner k rs ≡ on a sum
  pub modulo : Modulo sum b

pub on_the_earth : (k : ℕ) (rs : List RowWords) (a b : ℤ) → corner_in k rs ≡ on a b → OnTheEarth k rs a b
unfolding corner_in
on_the_earth k rs a b = go (plain_corner k rs) refl
  where
    go : (c : CornerSeen) → plain_corner k rs ≡ c → on_earth c ≡ on a b → OnTheEarth k rs a b
    go no_corner w e = never (cc)
    go off_the_earth w e = never (cc)
    go (on c d) w e =
        by_bool (beyond_pole c)
        (λ p. let f : off_the_earth ≡ on a b = rw p at e in never (cc))
        (λ p.
        let f : on c (brought_back d) ≡ on a b = rw p at e in
        let north : c ≡ a = cc in
        let east : brought_back d ≡ b = cc in
        record {
          latitude = rw (← north) p;
          longitude = rw (← east) (back_in_range d (few_far d (plain_far k rs c d w)));
          sum = d;
          was = rw (← north) w;
          modulo = rw (← east) (back_modulo d);
        })

-- for each packet, and for what the function answers: a point on the Earth
pub corner_on_earth : (k : ℕ) (K : TagSet) (p : List ℕ) (a b : ℤ) → corner_of k K p ≡ given (on a b) → (beyond_pole a ≡ false) × (in_range b ≡ true)
unfolding from_rows
corner_on_earth k K p a b e =
    let m = map_given _ (received K p) e in
    let o = on_the_earth k _ a b m.2 in
    (o.latitude, o.longitude)

pub answer_on_earth : (k : ℕ) (K : TagSet) (p : List ℕ) (r : Result Corner Refusal) (q : Point) → map corner_said (answer_said r) ≡ corner_of k K p → r ≡ Ok (corner.At q)
    → (beyond_pole q.latitude ≡ false) × (in_range q.longitude ≡ true)
answer_on_earth k K p r q e f = corner_on_earth k K p q.latitude q.longitude (sym e ∙ ap (λ x. map corner_said (answer_said x)) f)
