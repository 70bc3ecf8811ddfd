-- The shadow of the code, not to be believed but proved to be what document 01's definitions give: the shapes of all tags
-- below 128 as a column of bytes, and masks of their lengths as another.
use Rattle.std.specs.Prelude.{ℕ, zero, suc, ◌+◌, ◌/◌, ◌%◌, Bool, false, cond, ◌||◌, List, [], ◌∷◌, leb, eqb, get_or}
use Rattle.std.specs.Int.Bits.{bit_or}
use Rattle.catalogue.specs.Extended.{is_extended}
use Rattle.catalogue.specs.Shapes.{shape_of}
use Rattle.catalogue.specs.declared.Shape.{Shape}
use Rattle.catalogue.specs.declared.Shape.TheVariants.{Text, Number, Absent}

-- a mask within which every length of a number lies: its width, or 7 where it has more than one length; none where it is no number
abbrev pub shape_mask : Shape → ℕ
shape_mask Text = 0
shape_mask (Number least most marked) = cond (eqb least most) least 7
shape_mask Absent = 0

-- a shape's byte: the mask, 16 times document 01's kind (1 reading, 3 text, 4 carried), and 128 more for a mark
abbrev pub shape_byte : Shape → ℕ
shape_byte Text = 48
shape_byte (Number least most marked) = cond marked 144 16 + shape_mask (Number least most marked)
shape_byte Absent = 64

-- the shape that a byte says, if it has one length at most
abbrev pub shape_from : ℕ → Shape
shape_from b =
    cond (eqb (b / 16 % 8) 4) Absent
    (cond (eqb (b / 16 % 8) 3) Text (Number (b % 16) (b % 16) (leb 128 b)))

-- a mask for a glance at a length of one byte: within it lie no bytes and the width, which is a power of two, and of a text every length
abbrev pub length_mask : Shape → ℕ
length_mask Text = 127
length_mask (Number least most marked) = shape_mask (Number least most marked)
length_mask Absent = 127

abbrev pub within : ℕ → ℕ → Bool
within mask n = eqb (bit_or n mask) mask

-- a closer look than at one length: no item has tag 0, and an extended height has more lengths
abbrev pub is_close : ℕ → Bool
is_close t = eqb t 0 || is_extended t

abbrev pub mask_byte : ℕ → ℕ
mask_byte t = cond (is_close t) 128 (length_mask (shape_of t))

-- the bytes of n tags from t on
unfoldable pub column_from : (ℕ → ℕ) → ℕ → ℕ → List ℕ
column_from byte zero t = []
column_from byte (suc n) t = byte t ∷ column_from byte n (suc t)

unfoldable pub shape_column : List ℕ
shape_column = column_from (λ t. shape_byte (shape_of t)) 128 0

unfoldable pub mask_column : List ℕ
mask_column = column_from mask_byte 128 0

-- the shape that any column has for a tag
unfoldable pub shape_in : List ℕ → ℕ → Shape
shape_in column t = cond (is_extended t) (Number 2 4 false) (cond (leb 128 t) Absent (shape_from (get_or column t 0)))
