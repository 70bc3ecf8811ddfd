-- What the reader answers and leaves, by the packet's check.
-- Assumes nothing.
use Prim.Native.Nat.{ℕ, ◌<◌, ◌≤◌}
use mathlib.Core.Path.{◌≡◌, ap, sym, ◌∙◌}
use mathlib.Core.Bool.{true, false}
use mathlib.Core.List.{List}
use lib.ListN.{length}
use borrow.Author.Tests.{lt-ltb, le-ltb}
use Rattle.refusal.specs.Answer.{Answer, given, refused, map, answer_said}
use Rattle.refusal.proofs.Answers.{map_given, map_refused}
use Rattle.number.specs.Stored.{Bytes}
use Rattle.tagset.specs.Sets.{holds}
use Rattle.tagset.specs.declared.TagSet.{TagSet}
use Rattle.knowing.specs.Good.{good}
use Rattle.packet.specs.Pieces.{Item}
use Rattle.packet.specs.Structure.{ItemsFrom}
use Rattle.packet.specs.Verdict.{start_of, body_of, received, checked}
use Rattle.packet.specs.Rows.{lent_verdict, filled_by, read_answer, table_by, read_table, table_of}
use Rattle.packet.specs.declared.Accepted.{Accepted}
use Rattle.packet.proofs.Accepting.{Accepting, accepting}
use Rattle.reader.specs.Reads.{Reads}
use Rattle.reader.specs.code.Filling.{AcceptsFrom, or_none, items_of}
use Rattle.reader.proofs.Headers.{items_past}
use Rattle.std.specs.Prelude.{Result, Ok}
use Rattle.refusal.specs.declared.Refusal.{Refusal}
use Rattle.rows.specs.declared.Filled.{Filled}

-- a refusal that leaves the table as it was
module _ {K : TagSet} {p t : List ℕ} {r : Result Filled Refusal} where
  by_verdict : {n a g : ℕ} → lent_verdict K p t ≡ refused n a g → answer_said r ≡ refused n a g → Reads K p t r t
  unfolding read_answer read_table
  by_verdict e s = record { answer = s ∙ sym (ap (map (filled_by (holds K))) e); table = sym (ap (table_by (holds K) t) e) }

  pub not_good : good K ≡ false → answer_said r ≡ refused 1 0 0 → Reads K p t r t
  unfolding lent_verdict
  not_good g s = by_verdict (rw g) s

  pub short_table : good K ≡ true → length t < 512 → answer_said r ≡ refused 2 0 0 → Reads K p t r t
  unfolding lent_verdict
  short_table g h s = by_verdict (rw (g, lt-ltb (length t) 512 h)) s

-- an accepted packet
record Taken (K : TagSet) (p : List ℕ) (b : Accepted) : Type 0 where
  pub items : List Item
  pub accepts : received K p ≡ given items
  pub body : b ≡ body_of (holds K) items

taken : {K : TagSet} {p : List ℕ} {b : Accepted} → checked K p ≡ given b → Taken K p b
unfolding checked
taken {K} {p} e = let r = map_given (body_of (holds K)) (received K p) e in record { items = r.0; accepts = r.1; body = sym r.2 }

taken_fills : {K : TagSet} {p : List ℕ} {b : Accepted} → Taken K p b → Bytes p → AcceptsFrom K p b.from b.count
taken_fills {K} {p} {b} k by =
    let a : Accepting K p k.items = accepting K p k.items by k.accepts in
    let begins : ItemsFrom p b.from = record { items = k.items; found = a.found; walked = rw (ap (λ x. x.from) k.body) a.fills } in
    let first : b.from ≡ start_of 0 k.items = ap (λ x. x.from) k.body in
    record { begins = begins; accepted = k.accepts; past = rw first (items_past p by k.items a.found); counted = ap (λ x. x.count) k.body }

pub may_fill : {K : TagSet} {p : List ℕ} {b : Accepted} → checked K p ≡ given b → Bytes p → AcceptsFrom K p b.from b.count
may_fill e = taken_fills (taken e)

module _ (K : TagSet) (p t : List ℕ) (g : good K ≡ true) (room : 512 ≤ length t) where
  lent : {v : Answer (List Item)} → received K p ≡ v → lent_verdict K p t ≡ v
  unfolding lent_verdict received
  lent e = rw (g, le-ltb (length t) 512 room) (rw g at e)

  pub refused_packet : {r : Result Filled Refusal} {n a b : ℕ} → checked K p ≡ refused n a b → answer_said r ≡ refused n a b → Reads K p t r t
  unfolding checked
  refused_packet e s = by_verdict (lent (map_refused (body_of (holds K)) (received K p) _ _ _ e)) s

  pub table_read : {b : Accepted} {t' : List ℕ} → checked K p ≡ given b → t' ≡ table_of (holds K) (items_of K p) t
      → Reads K p t (Ok (record { count = b.count; present = b.present; withdrawn = b.withdrawn })) t'
  unfolding read_answer read_table
  table_read e f =
      let k = taken e in
      let v : lent_verdict K p t ≡ given k.items = lent k.accepts in
      record {
        answer = ap (λ x. given (record { count = x.count; present = x.present; withdrawn = x.withdrawn })) k.body
            ∙ sym (ap (map (filled_by (holds K))) v);
        table = f ∙ (ap (λ r. table_of (holds K) (or_none r) t) k.accepts ∙ sym (ap (table_by (holds K) t) v));
      }
