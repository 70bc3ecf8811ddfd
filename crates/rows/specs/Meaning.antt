-- What a receiver sees in an item. Document 01, Rows: "A row is four 64-bit words: tag; kind (1 reading, 2 mark, 3 text, 4 carried);
-- the stored code as an unsigned number (0 for text and carried); place of the value × 65,536 + its length." W-204 changed the four kinds: "Add
-- a fifth kind, withdrawn, with code 0 and length 0".
use Rattle.std.specs.Prelude.{ℕ, ◌-◌, ◌*◌, ◌^◌, Bool, true, false, cond, ◌&&◌, List, eqb, length}
use Rattle.number.specs.Stored.{value_of}
use Rattle.catalogue.specs.Shapes.{shape_of, is_empty}
use Rattle.catalogue.specs.declared.Shape.{Shape}
use Rattle.catalogue.specs.declared.Shape.TheVariants.{Text, Number, Absent}

-- a number is its code and its length; of text and carried bytes A says what they are, or where they stand; what is withdrawn has neither
pub data Meaning (A : Type 0) : Type 0 where
  reading : (code size : ℕ) → Meaning A
  mark : (code size : ℕ) → Meaning A
  text : A → Meaning A
  carried : A → Meaning A
  withdrawn : Meaning A

-- the shape that a receiver gives a tag: it carries what it does not know
unfoldable pub shape_for : (ℕ → Bool) → ℕ → Shape
shape_for K t = cond (K t) (shape_of t) Absent

-- "the lowest code (only the top bit set) is a mark"
abbrev pub mark_code : ℕ → ℕ
mark_code width = 2 ^ (8 * width - 1)

-- a value by the shape that a receiver gives the tag, the number that it is as a code, and how many bytes it has
abbrev pub value_as : {A : Type 0} → Shape → ℕ → ℕ → A → Meaning A
value_as (Number least most marked) code size a = cond (marked && eqb code (mark_code most)) (mark code size) (reading code size)
value_as Text code size a = text a
value_as Absent code size a = carried a

-- the one rule: W-204, "a known item with length zero" is withdrawn, and "a receiver that doesn't know the tag carries an empty value"
abbrev pub seen_as : {A : Type 0} → Shape → ℕ → ℕ → A → Meaning A
seen_as shape code size a = cond (is_empty shape size) withdrawn (value_as shape code size a)

-- of a value's bytes
abbrev pub meaning_of : Shape → List ℕ → Meaning (List ℕ)
meaning_of shape value = seen_as shape (value_of value) (length value) value

-- "kind (1 reading, 2 mark, 3 text, 4 carried)"; W-204: "a fifth kind, withdrawn"
abbrev pub reading_kind : ℕ
reading_kind = 1

abbrev pub mark_kind : ℕ
mark_kind = 2

abbrev pub text_kind : ℕ
text_kind = 3

abbrev pub carried_kind : ℕ
carried_kind = 4

abbrev pub withdrawn_kind : ℕ
withdrawn_kind = 5

abbrev pub kind_of : {A : Type 0} → Meaning A → ℕ
kind_of (reading code size) = reading_kind
kind_of (mark code size) = mark_kind
kind_of (text a) = text_kind
kind_of (carried a) = carried_kind
kind_of withdrawn = withdrawn_kind

-- the kind by the shape, the code and the length
abbrev pub kind_for : Shape → ℕ → ℕ → ℕ
kind_for shape code size = kind_of (seen_as {A = Unit {0}} shape code size tt)

-- "the stored code as an unsigned number (0 for text and carried)"; W-204: "with code 0"
abbrev pub code_of : {A : Type 0} → Meaning A → ℕ
code_of (reading code size) = code
code_of (mark code size) = code
code_of (text a) = 0
code_of (carried a) = 0
code_of withdrawn = 0

-- a number, which heights and corners look at: text and carried bytes are none. W-204: "Heights and corners treat a withdrawn row as absent."
abbrev pub is_number : {A : Type 0} → Meaning A → Bool
is_number (reading code size) = true
is_number (mark code size) = true
is_number (text a) = false
is_number (carried a) = false
is_number withdrawn = false

-- the same with something else said of text and carried bytes
abbrev pub map_meaning : {A B : Type 0} → (A → B) → Meaning A → Meaning B
map_meaning f (reading code size) = reading code size
map_meaning f (mark code size) = mark code size
map_meaning f (text a) = text (f a)
map_meaning f (carried a) = carried (f a)
map_meaning f withdrawn = withdrawn

-- what a kind's number, a code, a length and the rest say; any other number of a kind is no row that a reader makes
abbrev pub said_by : {A : Type 0} → ℕ → ℕ → ℕ → A → Meaning A
said_by kind code size a =
    cond (eqb kind reading_kind) (reading code size)
    (cond (eqb kind mark_kind) (mark code size)
    (cond (eqb kind text_kind) (text a)
    (cond (eqb kind withdrawn_kind) withdrawn
    (carried a))))
