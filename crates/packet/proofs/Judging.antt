-- The items judged one after another, the tags seen kept as a set.
-- Assumes nothing.
use Prim.Native.Nat.{ℕ, ◌+◌, ◌<◌, ◌≤◌}
use native.Mathlib.Omega.{arith}
use mathlib.Core.Path.{◌≡◌, refl, ap, sym, ◌∙◌}
use mathlib.Core.Bool.{cond}
use mathlib.Core.List.{List, [], ◌∷◌}
use lib.ListN.{length}
use borrow.Author.Tests.{eq-eqb, ne_eqb}
use Rattle.base.proofs.Cases.{by_bool, by_lt, by_eq}
use Rattle.refusal.specs.Answer.{Answer, given, refused}
use Rattle.tagset.specs.Sets.{no_tags, holds, with_tag}
use Rattle.tagset.specs.declared.TagSet.{TagSet}
use Rattle.tagset.proofs.Laws.{Words, no_words, no-tags, holds_none, with_words, with_it, with_other}
use Rattle.packet.specs.Pieces.{Item, Piece, pieces}
use Rattle.packet.specs.Judge.{has, among, clean, wrong, fault_of, Judged, fine, faulty, no_version, later, on_fault, judge_from, judge}
use Rattle.packet.specs.Said.{header_at}
use Rattle.packet.specs.Verdict.{placed}
use Rattle.packet.specs.code.Headers.{item_by}
use Rattle.packet.specs.code.Concluded.{WalksFrom, bare, judged_from}
use Rattle.packet.specs.declared.Header.{Header}
use Rattle.packet.proofs.Ahead.{Ahead, no_more, next}
use Rattle.packet.proofs.Walked.{header_start}

-- the set of tags seen is the list of them, for tags below 128
pub record SeenBy (s : TagSet) (ts : List ℕ) : Type 0 where
  pub words : Words s
  pub each : (t : ℕ) → t < 128 → holds s t ≡ has t ts

pub none_seen : SeenBy no_tags []
none_seen = record { words = no_words; each = λ t h. no-tags t }

pub one_seen : (s : TagSet) (ts : List ℕ) (u : ℕ) → SeenBy s ts → SeenBy (with_tag s u) (u ∷ ts)
one_seen s ts u b =
    record {
      words = with_words s b.words u;
      each = λ t h. by_eq t u
          (λ e. rw (eq-eqb t u e) (ap (holds (with_tag s u)) e ∙ with_it s b.words u (omega arith)))
          (λ e. rw (ne_eqb t u e) (with_other s b.words u t e ∙ b.each t h));
    }

-- the fault by the set is the fault by the list
same_fault : (K s : TagSet) (ts : List ℕ) (c : Piece) → Words K → SeenBy s ts → fault_of (holds K) (holds s) c ≡ fault_of (holds K) (among ts) c
unfolding fault_of
same_fault K s ts c w b =
    by_lt c.tag 128
    (λ h. rw (b.each c.tag h))
    (λ h. rw (holds_none K w c.tag h))

-- what is judged of items, without them
abbrev pub verdict_of : List Item → Judged → Answer (Unit {0})
verdict_of is j = bare (placed is j)

verdict_later : (i : Item) (is : List Item) (j : Judged) → verdict_of (i ∷ is) (later j) ≡ verdict_of is j
verdict_later i is fine = refl
verdict_later i is (faulty k n t) = refl
verdict_later i is no_version = refl

-- the items ahead are judged as all are, by the tags seen
pub record Judges (K : TagSet) (p : List ℕ) (from here : ℕ) (seen : TagSet) : Type 0 where
  pub ahead : Ahead p here
  pub tags : List ℕ
  pub met : SeenBy seen tags
  pub same : verdict_of ahead.items (judge_from (holds K) tags (pieces ahead.items)) ≡ judged_from K p from

pub judges_begin : (K : TagSet) (p : List ℕ) (from : ℕ) → WalksFrom p from → Judges K p from from no_tags
unfolding judge
judges_begin K p from w =
    record {
      ahead = record { most = 128; items = w.items; walks = w.walked };
      tags = [];
      met = none_seen;
      same = rw w.walked;
    }

module _ (K : TagSet) (w : Words K) (p : List ℕ) (from here : ℕ) (seen : TagSet) (j : Judges K p from here seen) where
  -- at the end item 65 is asked for
  pub judges_end : length p ≤ here → cond (holds seen 65) (given tt) (refused 15 0 0) ≡ judged_from K p from
  unfolding judge_from
  judges_end h =
      let s = rw (no_more p here j.ahead h) at j.same in
      rw (j.met.each 65 (omega arith)) (by_bool (has 65 j.tags) (λ e. rw e (rw e at s)) (λ e. rw e (rw e at s)))

  module _ (h : here < length p) (i : Header) (found : header_at p here ≡ given i) where
    abbrev rest : Ahead p (i.place + i.size)
    rest = (next p here j.ahead h i found).ahead

    judged_next : verdict_of (item_by p i ∷ rest.items)
        (on_fault (fault_of (holds K) (holds seen) (item_by p i).piece) i.tag (judge_from (holds K) (i.tag ∷ j.tags) (pieces rest.items)))
        ≡ judged_from K p from
    unfolding judge_from
    judged_next =
        rw (same_fault K seen j.tags (item_by p i).piece w j.met) (rw (next p here j.ahead h i found).items at j.same)

    pub judges_wrong : (n : ℕ) → wrong n ≡ fault_of (holds K) (holds seen) (item_by p i).piece
        → refused n here i.tag ≡ judged_from K p from
    judges_wrong n e = ap (λ at. refused n at i.tag) (sym (header_start p here i found)) ∙ rw (← e) at judged_next

    pub judges_clean : clean ≡ fault_of (holds K) (holds seen) (item_by p i).piece → Judges K p from (i.place + i.size) (with_tag seen i.tag)
    judges_clean e =
        record {
          ahead = rest;
          tags = i.tag ∷ j.tags;
          met = one_seen seen j.tags i.tag j.met;
          same = sym (verdict_later (item_by p i) rest.items (judge_from (holds K) (i.tag ∷ j.tags) (pieces rest.items))) ∙ rw (← e) at judged_next;
        }
