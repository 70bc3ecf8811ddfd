-- W-201, which items are there: "Keep two words beside the rows with a bit for each known tag present, and answer from them alone. The
-- answer must equal that of a scan of all rows, for each of the tags, and the number of set bits must equal the number of rows that
-- aren't carried." A row that is withdrawn (W-204) is not carried, and its bit is set; which rows are withdrawn a second pair of words says.
use Rattle.std.specs.Prelude.{ℕ, ◌+◌, Bool, false, cond, not, ◌&&◌, ◌||◌, List, [], ◌∷◌, eqb}
use Rattle.tagset.specs.Sets.{no_tags, with_tag}
use Rattle.tagset.specs.declared.TagSet.{TagSet}
use Rattle.rows.specs.Meaning.{carried_kind, withdrawn_kind}
use Rattle.rows.specs.declared.RowWords.{RowWords}

-- a row that is not carried
abbrev pub is_present : RowWords → Bool
is_present r = not (eqb r.kind carried_kind)

-- a row that is withdrawn
abbrev pub is_withdrawn : RowWords → Bool
is_withdrawn r = eqb r.kind withdrawn_kind

-- a row with a value: the others are carried or withdrawn
abbrev pub has_value : RowWords → Bool
has_value r = is_present r && not (is_withdrawn r)

-- two words beside a list of rows: the bit of its tag for each row of some sort
abbrev pub with_row : (RowWords → Bool) → TagSet → RowWords → TagSet
with_row sort s r = cond (sort r) (with_tag s r.tag) s

unfoldable pub words_from : (RowWords → Bool) → TagSet → List RowWords → TagSet
words_from sort s [] = s
words_from sort s (r ∷ rs) = words_from sort (with_row sort s r) rs

-- those of the rows that are not carried, and those of the rows that are withdrawn
unfoldable pub present_in : List RowWords → TagSet
present_in rs = words_from is_present no_tags rs

unfoldable pub withdrawn_in : List RowWords → TagSet
withdrawn_in rs = words_from is_withdrawn no_tags rs

-- a scan of all rows: is there one of this tag and sort?
unfoldable pub scanned : (RowWords → Bool) → ℕ → List RowWords → Bool
scanned sort t [] = false
scanned sort t (r ∷ rs) = sort r && eqb t r.tag || scanned sort t rs

-- how many rows are of a sort
unfoldable pub rows_with : (RowWords → Bool) → List RowWords → ℕ
rows_with sort [] = 0
rows_with sort (r ∷ rs) = cond (sort r) 1 0 + rows_with sort rs
