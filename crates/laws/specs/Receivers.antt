-- Two receivers, of which one knows all that the other knows: what each may say of the same packet.
use Rattle.std.specs.Prelude.{ℕ, ◌≡◌, true, false, List}
use Rattle.refusal.specs.Answer.{Answer, given, refused}
use Rattle.tagset.specs.Sets.{meet}
use Rattle.tagset.specs.declared.TagSet.{TagSet}
use Rattle.rows.specs.Meaning.{carried_kind}
use Rattle.rows.specs.declared.RowWords.{RowWords}
use Rattle.packet.specs.Judge.{Knowing}
use Rattle.packet.specs.Rows.{Filled, rows_in, SameTable}

-- K' knows all that K knows
abbrev pub Below : Knowing → Knowing → Type 0
Below K K' = (t : ℕ) → K t ≡ true → K' t ≡ true

-- the tag that only K' knows
pub record Only (K K' : Knowing) (t : ℕ) : Type 0 where
  pub unknown : K t ≡ false
  pub known : K' t ≡ true

-- the row of the same item, carried: code 0, the same place and length
abbrev pub carried : RowWords → RowWords
carried r = record { tag = r.tag; kind = carried_kind; code = 0; part = r.part }

-- the row that K gives, beside the row that K' gives to the same item
pub record SmallerRow (K : Knowing) (r r' : RowWords) : Type 0 where
  pub known : K r'.tag ≡ true → r ≡ r'
  pub unknown : K r'.tag ≡ false → r ≡ carried r'

-- as many rows, and of the words what lies within a knowing set
abbrev pub filled_within : TagSet → Filled → Filled
filled_within K f = record { count = f.count; present = meet f.present K; withdrawn = meet f.withdrawn K }

-- two readings up to places: the same refusal and tag, or the same count and the same table
pub data SameReading (p q : List ℕ) : Answer Filled → List ℕ → Answer Filled → List ℕ → Type 0 where
  both_refuse : {n t a b : ℕ} {l m : List ℕ} → SameReading p q (refused n a t) l (refused n b t) m
  both_read : {done : Filled} {l m : List ℕ} → SameTable p q (rows_in 0 done.count l) (rows_in 0 done.count m)
      → SameReading p q (given done) l (given done) m
