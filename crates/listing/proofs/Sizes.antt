-- No listing is longer than the named bound: a line has at most 42 bytes and two digits for each byte of its value.
-- Assumes nothing.
use Prim.Native.Nat.{ℕ, suc, ◌+◌, ◌*◌, ◌^◌, ◌<◌, ◌≤◌}
use native.Mathlib.Omega.{arith}
use mathlib.Core.Path.{◌≡◌, refl, ap}
use mathlib.Core.List.{List, [], ◌∷◌}
use lib.ListN.{length, length-append, length-take}
use lib.Arith.{digits_div}
use lib.IntN.{ℤ, pos, negsuc}
use Rattle.base.proofs.Cases.{by_eq}
use Rattle.base.specs.Every.{Each}
use Rattle.refusal.specs.Answer.{Answer, given, refused}
use Rattle.number.specs.Stored.{Bytes}
use Rattle.tagset.specs.Sets.{holds}
use Rattle.catalogue.specs.Rows.{all_tags}
use Rattle.knowing.specs.Good.{good}
use Rattle.rows.specs.declared.RowWords.{RowWords}
use Rattle.rows.specs.Taken.{part_place, part_length, part_of}
use Rattle.rows.proofs.Laws.{says_carried}
use Rattle.packet.specs.Pieces.{Item, pieces}
use Rattle.packet.specs.Judge.{Knowing}
use Rattle.packet.specs.Allowed.{ItemsOf, no_more, another, Formed}
use Rattle.packet.specs.Verdict.{received}
use Rattle.packet.specs.Rows.{row_of, rows_of, bytes_at}
use Rattle.scale.specs.Conversions.{to_house}
use Rattle.scale.specs.declared.House.{House}
use Rattle.refusal.proofs.Answers.{passed}
use Rattle.laws.proofs.Accepted.{accepted_allowed}
use Rattle.laws.proofs.Written.{Tagged}
use Rattle.laws.proofs.Forward.{items_tagged}
use Rattle.laws.proofs.Sent.{Lies, bytes_back, formed_lie}
use Rattle.spelling.specs.Spelling.{decimal, whole}
use Rattle.spelling.proofs.Digits.{decimal_few}
use Rattle.spelling.proofs.Laws.{decimal_short, hex_length}
use Rattle.listing.specs.Lines.{header, number_word, mark_word, text_word, carried_word, withdrawn_word, refused_word}
use Rattle.listing.specs.Lines.{field, number_text, content_text, line_of, lines_of, refused_line}
use Rattle.listing.specs.code.Listable.{reading_text}
use Rattle.listing.specs.Listing.{text_by, listing_of, largest}

field_short : (n k : ℕ) → 0 < k → n < 10 ^ k → length (field n) ≤ k + 1
unfolding field
field_short n k some h = rw length-append (omega (arith, decimal_short n k some h))

field_most : (n : ℕ) → length (field n) ≤ 21
unfolding field
field_most n = rw length-append (omega (arith, decimal_few n))

whole_most : (v : ℤ) → length (whole v) ≤ 21
unfolding whole
whole_most (pos n) = omega (arith, decimal_few n)
whole_most (negsuc n) = omega (arith, decimal_few (suc n))

number_most : (a : Answer House) (code : ℕ) → length (number_text a code) ≤ 21
number_most (given h) code = whole_most h.value
number_most (refused n p t) code = omega (arith, decimal_few code)

content_short : (p : List ℕ) (r : RowWords) → length (content_text p r) ≤ 28 + 2 * length (bytes_at p r)
unfolding content_text number_word mark_word text_word carried_word withdrawn_word
content_short p r =
    by_eq r.kind 1
    (λ e. rw (e, length-append) (omega (arith, number_most (to_house r.tag (part_length r.part) r.code) r.code)))
    (λ e. by_eq r.kind 2
    (λ f. rw f (omega arith))
    (λ f. by_eq r.kind 3
    (λ g. rw (g, length-append) (omega (arith, hex_length (bytes_at p r))))
    (λ g. by_eq r.kind 5
    (λ h. rw h (omega arith))
    (λ h. rw (says_carried r.kind r.code (part_length r.part) (part_of r.part) e f g h, length-append) (omega (arith, hex_length (bytes_at p r)))))))

content_most : (p : List ℕ) (r : RowWords) → length (content_text p r) ≤ 131098
content_most p r =
    let l : length (bytes_at p r) ≤ part_length r.part = rw length-take (omega arith) in
    let s : part_length r.part < 65536 = omega arith in
    omega (arith, content_short p r, l, s)

-- the sizes that the code adds up
pub number_few : (r : RowWords) {size : ℕ} → size ≡ length (reading_text r) → size ≤ 21
number_few r e = omega (arith, number_most (to_house r.tag (part_length r.part) r.code) r.code)

pub decimal_fits : (n : ℕ) {size : ℕ} → size ≡ length (decimal n) → size ≤ 20
decimal_fits n e = omega (arith, decimal_few n)

pub content_few : (p : List ℕ) (r : RowWords) {size : ℕ} → size ≡ length (content_text p r) → size ≤ 131098
content_few p r e = omega (arith, content_most p r)

module _ (K : Knowing) (p : List ℕ) (small : length p ≤ 8192) where
  line_short : (i : Item) → Lies p i → Tagged i.piece → length (line_of p (row_of K i)) ≤ 42 + 2 * length i.piece.value
  unfolding line_of row_of
  line_short i l t =
      let place : part_place (row_of K i).part ≡ i.place = digits_div i.place l.short in
      let size : length (bytes_at p (row_of K i)) ≡ length i.piece.value = ap length (bytes_back K p i l) in
      let front : length (field (part_place (row_of K i).part)) ≤ 5 = rw place (field_short i.place 4 (omega arith) (omega (arith, l.inside))) in
      let tag : length (field i.piece.tag) ≤ 8 = field_short i.piece.tag 7 (omega arith) (omega (arith, t.small)) in
      rw (length-append, length-append, length-append) (omega (arith, front, tag, content_short p (row_of K i), size))

  abbrev values_size : List Item → ℕ
  values_size [] = 0
  values_size (i ∷ is) = length i.piece.value + values_size is

  lines_short : (is : List Item) → Each (Lies p) is → Each Tagged (pieces is) → length (lines_of p (rows_of K is)) ≤ 42 * length is + 2 * values_size is
  unfolding lines_of rows_of
  lines_short [] l t = omega arith
  lines_short (i ∷ is) l t =
      rw length-append (omega (arith, line_short i l.0 t.0, lines_short is l.1 t.1))

  values_inside : {at : ℕ} {l : List ℕ} {is : List Item} → ItemsOf at l is → values_size is ≤ length l
  values_inside no_more = omega arith
  values_inside (another c form rest some few f items) =
      rw (length-append, length-append, length-append) (omega (arith, values_inside items))

  pub rows_short : (is : List Item) → Formed p is → length (lines_of p (rows_of K is)) ≤ 42 * length is + 2 * length p
  rows_short is f =
      let body : length f.body ≤ length p = rw (f.whole, length-append, length-append) (omega arith) in
      omega (arith, lines_short is (formed_lie p is f) (items_tagged f.items), values_inside f.items, body)

refused_short : (n place t : ℕ) → length (refused_line n place t) ≤ 71
unfolding refused_line refused_word
refused_short n place t =
    rw (length-append, length-append, length-append, length-append) (omega (arith, field_most n, field_most place, decimal_few t))

pub listing_short : (p : List ℕ) → Bytes p → length (listing_of p) ≤ largest
unfolding listing_of header received
listing_short p by = go (received all_tags p) refl
  where
    go : (a : Answer (List Item)) → received all_tags p ≡ a → length (text_by p a) ≤ largest
    go (given is) e =
        let f : Formed p is = (accepted_allowed (holds all_tags) p is by (passed (good all_tags) _ 1 0 0 e).1).formed in
        rw length-append (omega (arith, rows_short (holds all_tags) p f.small is f, f.few, f.small))
    go (refused n place t) e = omega (arith, refused_short n place t)
