-- What is answered of a text that fits, and of one that does not; and the rows of an accepted packet can be listed.
-- Assumes nothing.
use Prim.Native.Nat.{ℕ, ◌+◌, ◌<◌, ◌≤◌}
use native.Mathlib.Omega.{arith}
use native.Mathlib.Nat.{zero-add}
use mathlib.Core.Path.{◌≡◌, sym, ap, ◌∙◌}
use mathlib.Core.List.{List, [], ◌∷◌, ◌++◌}
use lib.ListN.{length, replicate, length-append}
use lib.Arith.{digits_div, digits_mod}
use borrow.Author.Tests.{lt-leb, lt-ltb, le-ltb}
use Rattle.base.specs.Every.{Each}
use Rattle.base.specs.Putting.{put_into, Wrote}
use Rattle.refusal.specs.Numbers.{number}
use Rattle.refusal.specs.Answer.{given, refused, refusal, answer_said}
use Rattle.refusal.specs.declared.Refusal.{Refusal}
use Rattle.number.specs.Stored.{Bytes}
use Rattle.tagset.specs.Sets.{holds}
use Rattle.tagset.specs.declared.TagSet.{TagSet}
use Rattle.catalogue.specs.Rows.{all_tags}
use Rattle.knowing.specs.Good.{good}
use Rattle.rows.specs.declared.RowWords.{RowWords}
use Rattle.packet.specs.Pieces.{Item}
use Rattle.packet.specs.Judge.{Knowing}
use Rattle.packet.specs.Allowed.{Formed}
use Rattle.packet.specs.Verdict.{received, checked}
use Rattle.packet.specs.Rows.{row_of, rows_of, rows_in}
use Rattle.laws.proofs.Accepted.{accepted_allowed}
use Rattle.laws.proofs.Sent.{Lies, formed_lie}
use Rattle.refusal.proofs.Answers.{passed}
use Rattle.laws.proofs.Tables.{Received, has_received, received_refused, items_count}
use Rattle.reader.specs.Reads.{Reads}
use Rattle.rows.specs.declared.Filled.{Filled}
use Rattle.spelling.specs.Spelling.{decimal}
use Rattle.listing.specs.Lines.{header, field, lines_of, refused_word, refused_line}
use Rattle.listing.specs.Listing.{text_by, listing_of}
use Rattle.listing.specs.Lists.{text_answer, Lists}
use Rattle.listing.specs.Accepted.{list_answer, list_output, ListsAccepted}
use Rattle.listing.specs.code.Listable.{InPacket, Listable}
use Rattle.listing.proofs.Sizes.{rows_short}
use Rattle.std.specs.Prelude.{Result, Ok, Err}

module _ {text o : List ℕ} {size : ℕ} (s : size ≡ length text) {r : Result ℕ Refusal} where
  pub does_not_fit : length o < size → answer_said r ≡ refused 18 0 0 → Lists text o r o
  unfolding text_answer put_into
  does_not_fit h e =
      let k : length o < length text = rw s at h in
      record { answer = e ∙ rw (lt-ltb _ _ k); output = rw (zero-add, lt-leb _ _ k) }

  pub fits : answer_said r ≡ given size → {n : ℕ} {o' : List ℕ} → Wrote o 0 text n o' → Lists text o r o'
  unfolding text_answer
  fits e w =
      let k : length text ≤ length o = omega arith in
      record { answer = e ∙ (ap given s ∙ rw (le-ltb _ _ k)); output = w.output }

pub rows_long : (p : List ℕ) (rs : List RowWords) {size : ℕ} → size ≡ length (lines_of p rs) → 21 + size ≡ length (header ++ lines_of p rs)
unfolding header
rows_long p rs e = ap (λ k. 21 + k) e ∙ sym (length-append header (lines_of p rs))

pub refusal_long : (n place t : ℕ) {a b c : ℕ} → a ≡ length (decimal n) → b ≡ length (decimal place) → c ≡ length (decimal t)
    → a + b + c + 11 ≡ length (refused_line n place t)
unfolding refused_line refused_word field
refusal_long n place t e f g =
    rw (length-append, length-append, length-append, length-append, length-append, length-append) (omega arith)

-- the rows of items that lie in the packet
rows_inside : (K : Knowing) (p : List ℕ) (is : List Item) → Each (Lies p) is → Each (InPacket p) (rows_of K is)
unfolding rows_of row_of
rows_inside K p [] l = tt
rows_inside K p (i ∷ is) l =
    (rw (digits_div i.place l.0.short, digits_mod i.place l.0.short) l.0.inside, rows_inside K p is l.1)

-- a receiver of the whole catalogue, with a table of its own
module _ {K : TagSet} (k : K ≡ all_tags) {p : List ℕ} {r : Result Filled Refusal} {t : List ℕ} (reads : Reads K p (replicate 512 0) r t) where
  reads_all : Reads all_tags p (replicate 512 0) r t
  reads_all = rw (← k) reads

  module _ {x : Refusal} (e : r ≡ Err x) where
    refused_so : received all_tags p ≡ refusal x
    refused_so = received_refused all_tags p (replicate 512 0) (omega arith) _ _ _ (sym reads_all.answer ∙ ap answer_said e)

    pub lists_refusal : refused_line (number x.reason) x.place x.tag ≡ listing_of p
    unfolding listing_of
    lists_refusal = ap (text_by p) (sym refused_so)

    pub refuses_list : (o : List ℕ) (l : Result ℕ Refusal) → answer_said l ≡ refusal x → ListsAccepted p o l o
    unfolding list_answer list_output checked
    refuses_list o l s = record { answer = rw refused_so s; output = rw refused_so }

  module _ {x : Filled} (e : r ≡ Ok x) where
    read : Received all_tags p (replicate 512 0) x
    read = has_received all_tags p (replicate 512 0) x (sym reads_all.answer ∙ ap answer_said e)

    same_rows : rows_in 0 x.count t ≡ rows_of (holds all_tags) read.items
    same_rows = ap (rows_in 0 x.count) reads_all.table ∙ read.rows

    pub lists_rows : header ++ lines_of p (rows_in 0 x.count t) ≡ listing_of p
    unfolding listing_of
    lists_rows = ap (λ rs. header ++ lines_of p rs) same_rows ∙ ap (text_by p) (sym read.accepted)

    pub lists_accepted : {o : List ℕ} {l : Result ℕ Refusal} {o' : List ℕ} → Lists (header ++ lines_of p (rows_in 0 x.count t)) o l o' → ListsAccepted p o l o'
    unfolding list_answer list_output checked
    lists_accepted {o} {l} {o'} h =
        let g : Lists (listing_of p) o l o' = rw (← lists_rows) h in
        record { answer = rw read.accepted g.answer; output = rw read.accepted g.output }

    pub listable : Bytes p → Listable p (rows_in 0 x.count t)
    unfolding received
    listable by =
        let K : Knowing = holds all_tags in
        let known = (passed (good all_tags) _ 1 0 0 read.accepted).1 in
        let f : Formed p read.items = (accepted_allowed K p read.items by known).formed in
        rw same_rows
        (record {
          inside = rows_inside K p read.items (formed_lie p read.items f);
          few = rw (items_count K read.items) f.few;
          small = f.small;
          short = rw (items_count K read.items) (rows_short K p f.small read.items f);
        })
