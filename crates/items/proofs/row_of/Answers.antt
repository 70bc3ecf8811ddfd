-- `items::row_of` meets its contract: each arm reads the row of its tag.
use Prim.Native.Nat.{ℕ, zero, suc, ◌≤◌, ◌<◌}
use borrow.Author.Tests.{eqb-true, ltb-true}
use mathlib.Core.Bool.{Bool, true, false, cond, ◌&&◌}
use mathlib.Core.List.{List, [], ◌∷◌}
use mathlib.Core.Path.{◌≡◌, refl, sym, ap, ◌∙◌}
use native.Mathlib.Omega.{arith}
use lib.Dec.{eqb, ltb, lit<}
use lib.IntN.{pos}
use lib.ListN.{get_or}
use Rattle.base.proofs.Cases.{by_lt, clash}
use Rattle.base.specs.Every.{all_below}
use Rattle.base.proofs.Every.{all-below, both_left, both_right}
use Rattle.tagset.specs.Sets.{holds, count_below}
use Rattle.tagset.proofs.Laws.{holds_none}
use Rattle.catalogue.specs.Items.{groups, member, item_in, item_of}
use Rattle.catalogue.specs.Rows.{rows_from, rows, entry_at, all_tags}
use Rattle.catalogue.specs.declared.Entry.{Entry}
use Rattle.catalogue.proofs.Laws.{all_words}
use Rattle.items.proofs.row_of.Goals as goal

abbrev tags : List ℕ
tags =
    1 ∷ 2 ∷ 3 ∷ 4 ∷ 5 ∷ 6 ∷ 7 ∷ 8 ∷ 9 ∷ 10 ∷ 11 ∷ 12 ∷ 13 ∷ 14 ∷ 15 ∷ 16
    ∷ 17 ∷ 18 ∷ 19 ∷ 20 ∷ 21 ∷ 22 ∷ 23 ∷ 24 ∷ 25 ∷ 26 ∷ 27 ∷ 28 ∷ 29 ∷ 30 ∷ 31 ∷ 32
    ∷ 33 ∷ 34 ∷ 35 ∷ 36 ∷ 37 ∷ 38 ∷ 39 ∷ 55 ∷ 56 ∷ 57 ∷ 59 ∷ 63 ∷ 64 ∷ 65 ∷ 67 ∷ 68
    ∷ 70 ∷ 71 ∷ 75 ∷ 78 ∷ 79 ∷ 80 ∷ 82 ∷ 83 ∷ 84 ∷ 85 ∷ 86 ∷ 87 ∷ 88 ∷ 89 ∷ 90 ∷ 91
    ∷ 103 ∷ 104 ∷ 105 ∷ []

abbrev tag_at : ℕ → ℕ
tag_at k = get_or tags k 0

in_order : ℕ → Bool
in_order k = eqb (count_below all_tags (tag_at k)) k

all_in_order : all_below in_order 67 ≡ true
unfolding in_order holds count_below all_tags groups member item_in item_of rows_from rows
all_in_order = refl

in-order : (k : ℕ) → k < 67 → count_below all_tags (tag_at k) ≡ k
unfolding in_order
in-order k h = eqb-true _ _ (all-below in_order 67 all_in_order k h)

arm : (l : List Entry) (t k : ℕ) → l ≡ rows → k < 67 → t ≡ tag_at k → get_or l k (0, 0, false, pos 0, pos 0) ≡ entry_at (count_below all_tags t)
arm l t k e h p = rw (e, p, in-order k h)

found : ℕ → Bool
found t = cond (holds all_tags t) (ltb (count_below all_tags t) 67 && eqb t (tag_at (count_below all_tags t))) true

all_found : all_below found 128 ≡ true
unfolding found holds count_below all_tags groups member item_in item_of rows_from rows
all_found = refl

record At (t : ℕ) : Type 0 where
  place : ℕ
  inside : place < 67
  same : t ≡ tag_at place

at : (t : ℕ) → holds all_tags t ≡ true → At t
unfolding found
at t e =
    by_lt t 128
    (λ h.
    let k = count_below all_tags t in
    let p = rw e at (all-below found 128 all_found t h) in
    record {
      place = k;
      inside = ltb-true k 67 (both_left (ltb k 67) _ p);
      same = eqb-true t (tag_at k) (both_right (ltb k 67) _ p);
    })
    (λ h. clash (sym e ∙ holds_none all_tags all_words t h))

abbrev Past : ℕ → ℕ → Type 0
Past t zero = Unit {0}
Past t (suc k) = Past t k × (t ≡ tag_at k → ⊥)

past : (t k i : ℕ) → Past t k → t ≡ tag_at i → k ≤ i
past t zero i p e = omega arith
past t (suc k) i p e =
    let h = past t k i p.0 e in
    let d : i ≡ k → ⊥ = λ q. p.1 (e ∙ ap tag_at q) in
    omega (arith, h, d)

top : (k : ℕ) → 66 ≤ k → k < 67 → k ≡ 66
top k h p = omega arith

pub returns-in-1 : goal.returns-in-1
returns-in-1 c = arm _ _ 0 c.table-rows.ensures (lit< tt) c.in-1.is

pub returns-in-2 : goal.returns-in-2
returns-in-2 c = arm _ _ 1 c.table-rows.ensures (lit< tt) c.in-2.is

pub returns-in-3 : goal.returns-in-3
returns-in-3 c = arm _ _ 2 c.table-rows.ensures (lit< tt) c.in-3.is

pub returns-in-4 : goal.returns-in-4
returns-in-4 c = arm _ _ 3 c.table-rows.ensures (lit< tt) c.in-4.is

pub returns-in-5 : goal.returns-in-5
returns-in-5 c = arm _ _ 4 c.table-rows.ensures (lit< tt) c.in-5.is

pub returns-in-6 : goal.returns-in-6
returns-in-6 c = arm _ _ 5 c.table-rows.ensures (lit< tt) c.in-6.is

pub returns-in-7 : goal.returns-in-7
returns-in-7 c = arm _ _ 6 c.table-rows.ensures (lit< tt) c.in-7.is

pub returns-in-8 : goal.returns-in-8
returns-in-8 c = arm _ _ 7 c.table-rows.ensures (lit< tt) c.in-8.is

pub returns-in-9 : goal.returns-in-9
returns-in-9 c = arm _ _ 8 c.table-rows.ensures (lit< tt) c.in-9.is

pub returns-in-10 : goal.returns-in-10
returns-in-10 c = arm _ _ 9 c.table-rows.ensures (lit< tt) c.in-10.is

pub returns-in-11 : goal.returns-in-11
returns-in-11 c = arm _ _ 10 c.table-rows.ensures (lit< tt) c.in-11.is

pub returns-in-12 : goal.returns-in-12
returns-in-12 c = arm _ _ 11 c.table-rows.ensures (lit< tt) c.in-12.is

pub returns-in-13 : goal.returns-in-13
returns-in-13 c = arm _ _ 12 c.table-rows.ensures (lit< tt) c.in-13.is

pub returns-in-14 : goal.returns-in-14
returns-in-14 c = arm _ _ 13 c.table-rows.ensures (lit< tt) c.in-14.is

pub returns-in-15 : goal.returns-in-15
returns-in-15 c = arm _ _ 14 c.table-rows.ensures (lit< tt) c.in-15.is

pub returns-in-16 : goal.returns-in-16
returns-in-16 c = arm _ _ 15 c.table-rows.ensures (lit< tt) c.in-16.is

pub returns-in-17 : goal.returns-in-17
returns-in-17 c = arm _ _ 16 c.table-rows.ensures (lit< tt) c.in-17.is

pub returns-in-18 : goal.returns-in-18
returns-in-18 c = arm _ _ 17 c.table-rows.ensures (lit< tt) c.in-18.is

pub returns-in-19 : goal.returns-in-19
returns-in-19 c = arm _ _ 18 c.table-rows.ensures (lit< tt) c.in-19.is

pub returns-in-20 : goal.returns-in-20
returns-in-20 c = arm _ _ 19 c.table-rows.ensures (lit< tt) c.in-20.is

pub returns-in-21 : goal.returns-in-21
returns-in-21 c = arm _ _ 20 c.table-rows.ensures (lit< tt) c.in-21.is

pub returns-in-22 : goal.returns-in-22
returns-in-22 c = arm _ _ 21 c.table-rows.ensures (lit< tt) c.in-22.is

pub returns-in-23 : goal.returns-in-23
returns-in-23 c = arm _ _ 22 c.table-rows.ensures (lit< tt) c.in-23.is

pub returns-in-24 : goal.returns-in-24
returns-in-24 c = arm _ _ 23 c.table-rows.ensures (lit< tt) c.in-24.is

pub returns-in-25 : goal.returns-in-25
returns-in-25 c = arm _ _ 24 c.table-rows.ensures (lit< tt) c.in-25.is

pub returns-in-26 : goal.returns-in-26
returns-in-26 c = arm _ _ 25 c.table-rows.ensures (lit< tt) c.in-26.is

pub returns-in-27 : goal.returns-in-27
returns-in-27 c = arm _ _ 26 c.table-rows.ensures (lit< tt) c.in-27.is

pub returns-in-28 : goal.returns-in-28
returns-in-28 c = arm _ _ 27 c.table-rows.ensures (lit< tt) c.in-28.is

pub returns-in-29 : goal.returns-in-29
returns-in-29 c = arm _ _ 28 c.table-rows.ensures (lit< tt) c.in-29.is

pub returns-in-30 : goal.returns-in-30
returns-in-30 c = arm _ _ 29 c.table-rows.ensures (lit< tt) c.in-30.is

pub returns-in-31 : goal.returns-in-31
returns-in-31 c = arm _ _ 30 c.table-rows.ensures (lit< tt) c.in-31.is

pub returns-in-32 : goal.returns-in-32
returns-in-32 c = arm _ _ 31 c.table-rows.ensures (lit< tt) c.in-32.is

pub returns-in-33 : goal.returns-in-33
returns-in-33 c = arm _ _ 32 c.table-rows.ensures (lit< tt) c.in-33.is

pub returns-in-34 : goal.returns-in-34
returns-in-34 c = arm _ _ 33 c.table-rows.ensures (lit< tt) c.in-34.is

pub returns-in-35 : goal.returns-in-35
returns-in-35 c = arm _ _ 34 c.table-rows.ensures (lit< tt) c.in-35.is

pub returns-in-36 : goal.returns-in-36
returns-in-36 c = arm _ _ 35 c.table-rows.ensures (lit< tt) c.in-36.is

pub returns-in-37 : goal.returns-in-37
returns-in-37 c = arm _ _ 36 c.table-rows.ensures (lit< tt) c.in-37.is

pub returns-in-38 : goal.returns-in-38
returns-in-38 c = arm _ _ 37 c.table-rows.ensures (lit< tt) c.in-38.is

pub returns-in-39 : goal.returns-in-39
returns-in-39 c = arm _ _ 38 c.table-rows.ensures (lit< tt) c.in-39.is

pub returns-in-55 : goal.returns-in-55
returns-in-55 c = arm _ _ 39 c.table-rows.ensures (lit< tt) c.in-55.is

pub returns-in-56 : goal.returns-in-56
returns-in-56 c = arm _ _ 40 c.table-rows.ensures (lit< tt) c.in-56.is

pub returns-in-57 : goal.returns-in-57
returns-in-57 c = arm _ _ 41 c.table-rows.ensures (lit< tt) c.in-57.is

pub returns-in-59 : goal.returns-in-59
returns-in-59 c = arm _ _ 42 c.table-rows.ensures (lit< tt) c.in-59.is

pub returns-in-63 : goal.returns-in-63
returns-in-63 c = arm _ _ 43 c.table-rows.ensures (lit< tt) c.in-63.is

pub returns-in-64 : goal.returns-in-64
returns-in-64 c = arm _ _ 44 c.table-rows.ensures (lit< tt) c.in-64.is

pub returns-in-65 : goal.returns-in-65
returns-in-65 c = arm _ _ 45 c.table-rows.ensures (lit< tt) c.in-65.is

pub returns-in-67 : goal.returns-in-67
returns-in-67 c = arm _ _ 46 c.table-rows.ensures (lit< tt) c.in-67.is

pub returns-in-68 : goal.returns-in-68
returns-in-68 c = arm _ _ 47 c.table-rows.ensures (lit< tt) c.in-68.is

pub returns-in-70 : goal.returns-in-70
returns-in-70 c = arm _ _ 48 c.table-rows.ensures (lit< tt) c.in-70.is

pub returns-in-71 : goal.returns-in-71
returns-in-71 c = arm _ _ 49 c.table-rows.ensures (lit< tt) c.in-71.is

pub returns-in-75 : goal.returns-in-75
returns-in-75 c = arm _ _ 50 c.table-rows.ensures (lit< tt) c.in-75.is

pub returns-in-78 : goal.returns-in-78
returns-in-78 c = arm _ _ 51 c.table-rows.ensures (lit< tt) c.in-78.is

pub returns-in-79 : goal.returns-in-79
returns-in-79 c = arm _ _ 52 c.table-rows.ensures (lit< tt) c.in-79.is

pub returns-in-80 : goal.returns-in-80
returns-in-80 c = arm _ _ 53 c.table-rows.ensures (lit< tt) c.in-80.is

pub returns-in-82 : goal.returns-in-82
returns-in-82 c = arm _ _ 54 c.table-rows.ensures (lit< tt) c.in-82.is

pub returns-in-83 : goal.returns-in-83
returns-in-83 c = arm _ _ 55 c.table-rows.ensures (lit< tt) c.in-83.is

pub returns-in-84 : goal.returns-in-84
returns-in-84 c = arm _ _ 56 c.table-rows.ensures (lit< tt) c.in-84.is

pub returns-in-85 : goal.returns-in-85
returns-in-85 c = arm _ _ 57 c.table-rows.ensures (lit< tt) c.in-85.is

pub returns-in-86 : goal.returns-in-86
returns-in-86 c = arm _ _ 58 c.table-rows.ensures (lit< tt) c.in-86.is

pub returns-in-87 : goal.returns-in-87
returns-in-87 c = arm _ _ 59 c.table-rows.ensures (lit< tt) c.in-87.is

pub returns-in-88 : goal.returns-in-88
returns-in-88 c = arm _ _ 60 c.table-rows.ensures (lit< tt) c.in-88.is

pub returns-in-89 : goal.returns-in-89
returns-in-89 c = arm _ _ 61 c.table-rows.ensures (lit< tt) c.in-89.is

pub returns-in-90 : goal.returns-in-90
returns-in-90 c = arm _ _ 62 c.table-rows.ensures (lit< tt) c.in-90.is

pub returns-in-91 : goal.returns-in-91
returns-in-91 c = arm _ _ 63 c.table-rows.ensures (lit< tt) c.in-91.is

pub returns-in-103 : goal.returns-in-103
returns-in-103 c = arm _ _ 64 c.table-rows.ensures (lit< tt) c.in-103.is

pub returns-in-104 : goal.returns-in-104
returns-in-104 c = arm _ _ 65 c.table-rows.ensures (lit< tt) c.in-104.is

pub returns-in_default : goal.returns-in_default
returns-in_default c =
    let t = c.args.tag in
    let a = at t c.requires in
    let h = past t 66 a.place c.in_default.in_default-own.rest a.same in
    arm _ t 66 c.table-rows.ensures (omega arith) (a.same ∙ ap tag_at (top a.place h a.inside))
