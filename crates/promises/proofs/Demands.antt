-- The three demands, in their order and words, over every outcome that the contracts of the public functions allow: `Reads` is read's,
-- `Writes` write's and also that of the records' writer, `WritesWith` write_with's, `Forwards` forward's, `Lists` list's, and `answer_said r ≡ checked K p` is
-- check's. What a lent slice of bytes holds is `Bytes`.
-- Assumes nothing.
use Prim.Native.Nat.{ℕ, ◌<◌, ◌≤◌}
use mathlib.Core.Path.{◌≡◌, ap, sym, ◌∙◌}
use mathlib.Core.Bool.{Bool, true, false}
use mathlib.Core.List.{List}
use lib.ListN.{length, take}
use lib.IntN.{ℤ}
use Rattle.base.proofs.Cases.{by_bool}
use Rattle.refusal.specs.Answer.{given, refused, refusal, map, answer_said}
use Rattle.refusal.specs.Numbers.{number}
use Rattle.refusal.specs.declared.Refusal.{Refusal}
use Rattle.refusal.proofs.Answers.{map_given}
use Rattle.number.specs.Stored.{Bytes}
use Rattle.tagset.specs.Sets.{holds}
use Rattle.tagset.specs.declared.TagSet.{TagSet}
use Rattle.tagset.proofs.Laws.{Words, Included}
use Rattle.catalogue.specs.Items.{item_of}
use Rattle.catalogue.specs.Extended.{is_extended}
use Rattle.catalogue.specs.declared.Item as catalogue
use Rattle.knowing.specs.Good.{good}
use Rattle.scale.specs.Conversions.{to_house, to_code}
use Rattle.scale.specs.declared.House.{House}
use Rattle.scale.specs.declared.Code.{Code}
use Rattle.scale.proofs.Values.{NearestValue, house_nearest}
use Rattle.scale.proofs.Codes.{NearestCode, code_nearest}
use Rattle.scale.proofs.Extended.{NearestHeight, CodeBelow}
use Rattle.scale.proofs.Heights.{height_nearest, sent_below}
use Rattle.rows.specs.declared.RowWords.{RowWords}
use Rattle.rows.specs.Taken.{row_at}
use Rattle.packet.specs.Verdict.{body_of, received, checked}
use Rattle.packet.specs.Rows.{Filled, filled_with, filled_by, table_of, rows_in, read_answer, SameTable}
use Rattle.packet.specs.declared.Accepted.{Accepted}
use Rattle.laws.specs.Receivers.{Below, Only, SmallerRow, filled_within, SameReading}
use Rattle.laws.proofs.Accepted.{received_allowed, allowed_received, accepted_allowed}
use Rattle.laws.proofs.Tables.{has_read, allowed_read, read_larger, read_rows, read_only}
use Rattle.reader.specs.Reads.{Reads}
use Rattle.writer.specs.Writes.{WritesWith, Writes}
use Rattle.writer.specs.declared.Written.{Written}
use Rattle.relay.specs.Forwards.{Forwards}
use Rattle.ground.specs.Ground.{from_rows}
use Rattle.listing.specs.Lists.{Lists}
use Rattle.promises.specs.Words.{AllowedTo, Starts, CheckedAs, ReadAs}
use Rattle.promises.proofs.Unchanged.{table_stays, handed_stays, output_stays, forward_stays, text_stays}
use Rattle.promises.proofs.NotTwo.{never_two, checked_not, rows_not, read_not, handed_not, write_not, forward_not, house_not, code_not, text_not}
use Rattle.promises.proofs.Naming.{refusal_names, verdict_refused}
use Rattle.promises.proofs.Writing.{written_read}
use Rattle.promises.proofs.Sending.{whole, own_read, forward_sends, forward_reading}
use Rattle.std.specs.Prelude.{Result, Ok, Err, Option, Some}

-- Demand 1: "Every byte string and every table gets an answer. Bad input is refused by number, place and tag; the caller has to test
-- nothing first (no public function has a requires)"
-- A function proved without a requires comes to an end with an answer for every input, and its contract allows one outcome alone: the
-- theorems `…-determined` of each crate's proofs/Outcomes.antt.

-- "a refusal changes nothing in the memory lent."
module _ {K : TagSet} {x : Refusal} where
  pub read_refusal_changes_nothing : {p t t' : List ℕ} → Reads K p t (Err x) t' → t' ≡ t
  read_refusal_changes_nothing {p} {t} c = c.table ∙ table_stays _ _ _ K p t (sym c.answer)

  pub write_refusal_changes_nothing : {count : ℕ} {words b o o' : List ℕ} → Writes K count words b o (Err x) o' → o' ≡ o
  write_refusal_changes_nothing {count} {words} {b} {o} c = c.output ∙ output_stays _ _ _ K count words b o (sym c.answer)

  pub write_with_refusal_changes_nothing : {h : Option TagSet} {count : ℕ} {words b o o' : List ℕ} → WritesWith K h count words b o (Err x) o' → o' ≡ o
  write_with_refusal_changes_nothing {h} {count} {words} {b} {o} c = c.output ∙ handed_stays _ _ _ K h count words b o (sym c.answer)

  pub forward_refusal_changes_nothing : {p o o' : List ℕ} → Forwards K p o (Err x) o' → o' ≡ o
  forward_refusal_changes_nothing {p} {o} c = c.output ∙ forward_stays _ _ _ K p o (sym c.answer)

pub list_refusal_changes_nothing : {x : Refusal} {text o o' : List ℕ} → Lists text o (Err x) o' → o' ≡ o
list_refusal_changes_nothing {text = text} {o = o} c = c.output ∙ text_stays _ _ _ text o (sym c.answer)

-- "Bad input is refused by number": 2, "table too short", is no answer of a function that is lent no table to fill, nor of read where it
-- is lent at least 512 words. What the listing prints of a refused packet is check's refusal; its own answer is a number of bytes or 18.
module _ {K : TagSet} {x : Refusal} where
  pub read_with_room_never_2 : {p t t' : List ℕ} → 512 ≤ length t → Reads K p t (Err x) t' → number x.reason ≡ 2 → ⊥
  read_with_room_never_2 {p} {t} long c = never_two (read_not K p t long) c.answer

  pub write_never_2 : {count : ℕ} {words b o o' : List ℕ} → Writes K count words b o (Err x) o' → number x.reason ≡ 2 → ⊥
  write_never_2 {count} {words} {b} {o} c = never_two (write_not K count words b o) c.answer

  pub write_with_never_2 : {h : Option TagSet} {count : ℕ} {words b o o' : List ℕ} → WritesWith K h count words b o (Err x) o'
      → number x.reason ≡ 2 → ⊥
  write_with_never_2 {h} {count} {words} {b} {o} c = never_two (handed_not K h count words b o) c.answer

  pub forward_never_2 : {p o o' : List ℕ} → Forwards K p o (Err x) o' → number x.reason ≡ 2 → ⊥
  forward_never_2 {p} {o} c = never_two (forward_not K p o) c.answer

pub list_never_2 : {x : Refusal} {text o o' : List ℕ} → Lists text o (Err x) o' → number x.reason ≡ 2 → ⊥
list_never_2 {text = text} {o = o} c = never_two (text_not text o) c.answer

module _ (K : TagSet) (p : List ℕ) (x : Refusal) where
  pub check_never_2 : answer_said (Err x) ≡ checked K p → number x.reason ≡ 2 → ⊥
  check_never_2 e = never_two (checked_not K p) e

  -- heights and corners
  pub ground_never_2 : {A : Type 0} (f : List RowWords → A) → refusal x ≡ from_rows f K p → number x.reason ≡ 2 → ⊥
  ground_never_2 f e = never_two (rows_not K p f) e

-- and conversions
module _ (tag n : ℕ) (x : Refusal) where
  pub to_house_never_2 : (stored : ℕ) → answer_said (Err x) ≡ to_house tag n stored → number x.reason ≡ 2 → ⊥
  to_house_never_2 stored e = never_two (house_not tag n stored) e

  pub to_code_never_2 : (v : ℤ) → answer_said (Err x) ≡ to_code tag n v → number x.reason ≡ 2 → ⊥
  to_code_never_2 v e = never_two (code_not tag n v) e

-- Demand 2: "A packet is accepted exactly when document 01 allows it."
module _ {K : TagSet} {p : List ℕ} where
  pub check_accepts_only_allowed : (b : Accepted) → Bytes p → answer_said (Ok b) ≡ checked K p → CheckedAs K p b
  unfolding checked
  check_accepts_only_allowed b by e =
      let f = map_given (body_of (holds K)) (received K p) (sym e) in
      let a = received_allowed K p f.0 by f.1 in
      record { packet = record { knows = a.0; items = f.0; allowed = a.1 }; body = sym f.2 }

  pub check_accepts_all_allowed : (r : Result Accepted Refusal) → answer_said r ≡ checked K p → (a : AllowedTo K p) → answer_said r ≡ given (body_of (holds K) a.items)
  unfolding checked
  check_accepts_all_allowed r e a = e ∙ ap (map (body_of (holds K))) (allowed_received K p a.items a.knows a.allowed)

  module _ {t t' : List ℕ} where
    pub read_accepts_only_allowed : {done : Filled} → Bytes p → Reads K p t (Ok done) t' → ReadAs K p t done t'
    read_accepts_only_allowed {done} by c =
        let r = has_read K p t done (sym c.answer) in
        record {
          packet = record { knows = r.right; items = r.items; allowed = accepted_allowed (holds K) p r.items by r.accepted };
          long = r.long;
          filled = sym r.filled;
          table = c.table ∙ r.table;
        }

    pub read_accepts_all_allowed : {r : Result Filled Refusal} → Reads K p t r t' → 512 ≤ length t → (a : AllowedTo K p)
        → (answer_said r ≡ given (filled_by (holds K) a.items)) × (t' ≡ table_of (holds K) a.items t)
    read_accepts_all_allowed c long a =
        let f = allowed_read K p t a.knows long a.items a.allowed in
        (c.answer ∙ f.0, c.table ∙ f.1)

-- "Each reading is the exact value to the nearest house unit; a value to be sent gets the nearest code." W-202: for an extended height a reading may
-- be a tie, which goes upward, and "Demand 2's nearest code reads 'the code at or below' for these items".
abbrev pub Shown : Bool → ℕ → catalogue.Item → ℕ → ℤ → Type 0
Shown true n i stored v = NearestHeight n stored v
Shown false n i stored v = NearestValue i stored v

abbrev pub Sent : Bool → ℕ → catalogue.Item → ℤ → ℕ → Type 0
Sent true n i v stored = CodeBelow n v stored
Sent false n i v stored = NearestCode i v stored

module _ (tag n : ℕ) (i : catalogue.Item) (found : item_of tag ≡ Some i) where
  pub reading_nearest : (stored : ℕ) (h : House) → answer_said (Ok h) ≡ to_house tag n stored → Shown (is_extended tag) n i stored h.value
  reading_nearest stored h e =
      by_bool (is_extended tag)
      (λ x. rw x (height_nearest tag n x stored h (sym e)))
      (λ x. rw x (house_nearest tag n stored i h found x (sym e)))

  pub sent_code_nearest : (v : ℤ) (c : Code) → answer_said (Ok c) ≡ to_code tag n v → Sent (is_extended tag) n i v c.code
  sent_code_nearest v c e =
      by_bool (is_extended tag)
      (λ x. rw x (sent_below tag n x v c (sym e)))
      (λ x. rw x (code_nearest tag n v i c found x (sym e)))

-- "The packet written from a table reads back as that table, places and checksum aside."
pub written_reads_back : {K : TagSet} {count : ℕ} {words b o o' : List ℕ} {w : Written} → Writes K count words b o (Ok w) o'
    → {t t' : List ℕ} {r : Result Filled Refusal} → 512 ≤ length t → Reads K (take w.size o') t r t'
    → (answer_said r ≡ given (filled_with count (rows_in 0 count words)))
    × SameTable b (take w.size o') (rows_in 0 count words) (rows_in 0 count t')
written_reads_back {K} {count} {words} {b} {o} {o'} {w} c {t} long d =
    let s = written_read K count words b o w (sym c.answer) t long in
    let q = rw (← c.output) at s in
    (d.answer ∙ q.0, rw d.table q.1)

-- Demand 3: "Of two receivers, one knowing all that the other knows and perhaps more": K is the poorer, K' the fuller
module _ {K K' : TagSet} (g : good K ≡ true) (g' : good K' ≡ true) (below : Below (holds K) (holds K'))
    {p t t' s s' : List ℕ} {r r' : Result Filled Refusal} (long : 512 ≤ length t) (long' : 512 ≤ length t') (c : Reads K p t r s) (c' : Reads K' p t' r' s') where
  within : Included K K'
  within = record { each = below }

  -- "what the fuller accepts, the poorer accepts, with the same answer for every item it knows.": row by row, and in W-201's words and those of
  -- the withdrawn rows, which are the fuller's within the poorer's knowing set
  pub fuller_accepts_poorer_accepts : Words K → Words K' → (done : Filled) → answer_said r' ≡ given done
      → (answer_said r ≡ given (filled_within K done))
      × ((k : ℕ) → k < done.count → SmallerRow (holds K) (row_at s k) (row_at s' k))
  fuller_accepts_poorer_accepts w w' done e =
      let f : read_answer K' p t' ≡ given done = sym c'.answer ∙ e in (
        c.answer ∙ read_larger K K' g g' within p t t' long long' w w' done f,
        λ k h. rw (c.table, c'.table) (read_rows K K' g g' within p t t' long long' done k f h),
      )

  -- "If only the fuller refuses, it names an item the other does not know.": an item of the packet, by its start and its tag
  pub only_fuller_refuses_names : (done : Filled) (n a u : ℕ) → Bytes p → answer_said r ≡ given done → answer_said r' ≡ refused n a u
      → (packet : AllowedTo K p) × Starts packet.items a u × Only (holds K) (holds K') u
  only_fuller_refuses_names done n a u by e f =
      let took : read_answer K p t ≡ given done = sym c.answer ∙ e in
      let refuses : read_answer K' p t' ≡ refused n a u = sym c'.answer ∙ f in
      let h = has_read K p t done took in (
        record { knows = g; items = h.items; allowed = accepted_allowed (holds K) p h.items by h.accepted },
        refusal_names (holds K) (holds K') p h.items n a u h.accepted (verdict_refused K' p t' g' long' n a u refuses),
        read_only K K' g g' within p t t' long long' done n a u took refuses,
      )

-- "A packet sent on by the poorer one, given output room as long as the packet": what is accepted is sent
module _ {K : TagSet} {p o o' : List ℕ} (by : Bytes p) where
  pub accepted_is_sent_on : {t t' : List ℕ} {done : Filled} {r : Result Written Refusal} → Reads K p t (Ok done) t' → Forwards K p o r o' → length p ≤ length o
      → (sent : Written) × (answer_said r ≡ given sent)
  accepted_is_sent_on {t} {done = done} c f room =
      (whole p, f.answer ∙ (forward_sends K p o by done (own_read K p t done (sym c.answer)) room).0)

  -- "gets from the fuller the table, or the refusal number and tag, that the original gets, places and checksum aside.": from every
  -- receiver, and whatever room there was
  pub sent_on_reads_same : {sent : Written} → Forwards K p o (Ok sent) o'
      → {K' : TagSet} {t t' s s' : List ℕ} {r r' : Result Filled Refusal} → 512 ≤ length t → 512 ≤ length s
      → Reads K' p t r t' → Reads K' (take sent.size o') s r' s'
      → SameReading p (take sent.size o') (answer_said r) t' (answer_said r') s'
  sent_on_reads_same {sent} f {K'} {t} {t'} {s} {s'} long long' c d =
      rw (c.answer, c.table, d.answer, d.table, f.output)
      (forward_reading K p o by sent (sym f.answer) K' t s long long')
