-- The texts of a row by its kind, and how long they are.
-- Assumes nothing.
use Prim.Native.Nat.{ℕ, ◌+◌, ◌*◌}
use native.Mathlib.Omega.{arith}
use mathlib.Core.Path.{◌≡◌, sym, ap, ◌∙◌}
use mathlib.Core.List.{List, ◌++◌}
use lib.ListN.{length, drop, length-drop, length-append}
use lib.Seq.{length-take-le}
use mir.Syntax.{w64}
use mir.Val.{SFits, to_z, of_z}
use mir.Facts.{to_z-of_z}
use Rattle.base.specs.Putting.{Wrote}
use Rattle.rows.specs.Meaning.{Meaning, map_meaning}
use Rattle.rows.specs.declared.RowWords.{RowWords}
use Rattle.rows.specs.Taken.{part_place, part_length, row_says}
use Rattle.rows.specs.declared.Part.{Part}
use Rattle.rows.proofs.Laws.{says_reading, says_mark, says_text, says_withdrawn, says_carried}
use Rattle.packet.specs.Rows.{bytes_at}
use Rattle.scale.specs.Conversions.{to_house}
use Rattle.refusal.specs.Answer.{answer_said}
use Rattle.scale.specs.declared.House.{House}
use Rattle.spelling.specs.Spelling.{decimal, whole, hex}
use Rattle.spelling.proofs.Laws.{hex_length}
use Rattle.listing.specs.Lines.{number_word, mark_word, text_word, carried_word, withdrawn_word}
use Rattle.listing.specs.Lines.{field, number_text, meaning_text, bytes_in, content_text, line_of}
use Rattle.listing.specs.code.Listable.{InPacket, reading_text}
use Rattle.std.specs.Prelude.{Result, Ok}
use Rattle.refusal.specs.declared.Refusal.{Refusal}

-- a reading, by what the conversion answers
module _ (tag n code : ℕ) {h : Result House Refusal} (e : answer_said h ≡ to_house tag n code) where
  pub number_said : {x : Result House Refusal} → h ≡ x → number_text (answer_said x) code ≡ number_text (to_house tag n code) code
  number_said f = ap (λ y. number_text (answer_said y) code) (sym f) ∙ ap (λ a. number_text a code) e

  -- in house units, as the code holds them
  pub whole_said : {x : House} → SFits w64 x.value → h ≡ Ok x → whole (to_z w64 (of_z w64 x.value)) ≡ number_text (to_house tag n code) code
  whole_said fits f = ap whole (to_z-of_z fits) ∙ number_said f

-- what is left in the output lent, by another name
pub wrote_left : {o : List ℕ} {at : ℕ} {t : List ℕ} {n : ℕ} {x y : List ℕ} → x ≡ y → Wrote o at t n y → Wrote o at t n x
wrote_left e w = rw e w

module _ (p : List ℕ) (r : RowWords) where
  -- by what the row says
  by_saying : {m : Meaning Part} → row_says r ≡ m → meaning_text r.tag (map_meaning (bytes_in p) m) ≡ content_text p r
  unfolding content_text
  by_saying e = sym (ap (λ m. meaning_text r.tag (map_meaning (bytes_in p) m)) e)

  pub number_content : r.kind ≡ 1 → number_word ++ reading_text r ≡ content_text p r
  number_content e = by_saying (says_reading _ _ _ _ e)

  pub number_length : r.kind ≡ 1 → {size : ℕ} → size ≡ length (reading_text r) → 7 + size ≡ length (content_text p r)
  unfolding number_word
  number_length e f = ap (λ k. 7 + k) f ∙ (sym (length-append number_word (reading_text r)) ∙ ap length (number_content e))

  pub mark_content : r.kind ≡ 2 → mark_word ≡ content_text p r
  mark_content e = by_saying (says_mark _ _ _ _ (λ f. absurd (omega arith)) e)

  pub mark_length : r.kind ≡ 2 → 6 ≡ length (content_text p r)
  unfolding mark_word
  mark_length e = ap length (mark_content e)

  pub withdrawn_content : r.kind ≡ 5 → withdrawn_word ≡ content_text p r
  withdrawn_content e = by_saying (says_withdrawn _ _ _ _ e)

  pub withdrawn_length : r.kind ≡ 5 → 10 ≡ length (content_text p r)
  unfolding withdrawn_word
  withdrawn_length e = ap length (withdrawn_content e)

  pub text_content : r.kind ≡ 3 → text_word ++ hex (bytes_at p r) ≡ content_text p r
  text_content e = by_saying (says_text _ _ _ _ (λ f. absurd (omega arith)) (λ f. absurd (omega arith)) e)

  pub carried_content : (r.kind ≡ 1 → ⊥) → (r.kind ≡ 2 → ⊥) → (r.kind ≡ 3 → ⊥) → (r.kind ≡ 5 → ⊥) → carried_word ++ hex (bytes_at p r) ≡ content_text p r
  carried_content n m k w = by_saying (says_carried _ _ _ _ n m k w)

  module _ (h : InPacket p r) {size : ℕ} (f : size ≡ part_length r.part) where
    bytes_length : 2 * size ≡ length (hex (bytes_at p r))
    bytes_length =
        let l : length (bytes_at p r) ≡ part_length r.part =
        length-take-le (part_length r.part) (drop (part_place r.part) p) (rw length-drop (omega arith)) in
        rw (hex_length (bytes_at p r), l, f)

    pub text_length : r.kind ≡ 3 → 5 + 2 * size ≡ length (content_text p r)
    unfolding text_word
    text_length e = ap (λ k. 5 + k) bytes_length ∙ (sym (length-append text_word (hex (bytes_at p r))) ∙ ap length (text_content e))

    pub carried_length : (r.kind ≡ 1 → ⊥) → (r.kind ≡ 2 → ⊥) → (r.kind ≡ 3 → ⊥) → (r.kind ≡ 5 → ⊥) → 8 + 2 * size ≡ length (content_text p r)
    unfolding carried_word
    carried_length n m k w =
        ap (λ k. 8 + k) bytes_length ∙ (sym (length-append carried_word (hex (bytes_at p r))) ∙ ap length (carried_content n m k w))

  module _ {x : ℕ} (d : x ≡ part_place r.part) {place tag content : ℕ} (e : place ≡ length (decimal x)) (f : tag ≡ length (decimal r.tag))
      (g : content ≡ length (content_text p r)) where
    pub line_length : place + tag + 2 + content + 1 ≡ length (line_of p r)
    unfolding line_of field
    line_length =
        let h = rw d at e in
        (rw (length-append, length-append, length-append, length-append, length-append) (omega arith))
