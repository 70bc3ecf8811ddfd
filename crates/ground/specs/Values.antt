-- Document 01, Heights and corners: what a receiver's rows say of a tag. "A row is present here only if its tag is known; a carried
-- row never counts." W-204: "Heights and corners treat a withdrawn row as absent."
use Rattle.std.specs.Prelude.{ℕ, ◌^◌, ◌<◌, cond, ◌&&◌, List, [], ◌∷◌, eqb}
use Rattle.std.specs.Int.Signed.{mag}
use Rattle.refusal.specs.Answer.{Answer, given, refused}
use Rattle.rows.specs.Meaning.{Meaning, reading, mark, text, carried, withdrawn, is_number}
use Rattle.rows.specs.declared.RowWords.{RowWords}
use Rattle.rows.specs.Taken.{row_says}
use Rattle.scale.specs.Conversions.{to_house}
use Rattle.scale.specs.declared.House.{House}
use Rattle.ground.specs.declared.Value.{Value}
use Rattle.ground.specs.declared.Value.TheVariants.{Absent, Off, At}

-- a code turned into house units; what is no number is never a place on the Earth
abbrev pub in_house : Answer House → Value
in_house (given h) = At h.value
in_house (refused n p t) = Off

-- what is seen in an item of a tag: a mark is off the Earth, a reading is in house units; text, carried bytes and what is withdrawn never count
abbrev pub value_seen : {A : Type 0} → ℕ → Meaning A → Value
value_seen tag (reading code size) = in_house (to_house tag size code)
value_seen tag (mark code size) = Off
value_seen tag (text a) = Absent
value_seen tag (carried a) = Absent
value_seen tag withdrawn = Absent

unfoldable pub value_by : RowWords → Value
value_by r = value_seen r.tag (row_says r)

-- the row of a tag, among readings and marks
unfoldable pub value_for : ℕ → List RowWords → Value
value_for t [] = Absent
value_for t (r ∷ rs) = cond (eqb r.tag t && is_number (row_says r)) (value_by r) (value_for t rs)

-- a value small enough to be added to another
abbrev pub Small : Value → Type 0
Small (At v) = mag v < 2 ^ 62
Small Off = Unit {0}
Small Absent = Unit {0}
