-- The shadow of the code, not to be believed but proved to be what document 01's definitions give: what it says of rows that they
-- were seen to be right at a glance. Of rows that were not it says nothing: the stages do.
use Rattle.std.specs.Prelude.{ℕ, ◌≡◌, true, false, cond, List, Option}
use Rattle.refusal.specs.Answer.{given, refused}
use Rattle.tagset.specs.Sets.{no_tags, holds, meet}
use Rattle.tagset.specs.declared.TagSet.{TagSet}
use Rattle.catalogue.specs.declared.Shape.{Shape}
use Rattle.rows.specs.Meaning.{shape_for}
use Rattle.rows.specs.declared.RowWords.{RowWords}
use Rattle.rows.specs.Taken.{part_length, row_good}
use Rattle.rows.specs.Present.{present_in}
use Rattle.packet.specs.Judge.{clean, fault_by}
use Rattle.packet.specs.Ends.{right_ends}
use Rattle.packet.specs.Rows.{rows_in}
use Rattle.outgoing.specs.Outgoing.{right_rows, right_size}
use Rattle.outgoing.specs.code.Staged.{row_size, rows_size, packed_by, row_fault, rows_judged, ends_in, told_in}
use Rattle.outgoing.specs.declared.Packed.{Packed}

-- a known row by its shape, the first of its tag: how many bytes its item has
pub record PlainAs (shape : Shape) (room : ℕ) (r : RowWords) (bytes : ℕ) : Type 0 where
  pub good : row_good shape room r ≡ true
  pub right : fault_by (record { shape = shape; tag = r.tag; size = part_length r.part; code = r.code; twice = false }) ≡ clean
  pub size : bytes ≡ row_size r

-- any row, after some tags
pub record Plain (K seen : TagSet) (room : ℕ) (r : RowWords) (bytes : ℕ) : Type 0 where
  pub good : row_good (shape_for (holds K) r.tag) room r ≡ true
  pub right : row_fault K seen r ≡ clean
  pub size : bytes ≡ row_size r

-- all rows: the tags seen, of which the known ones are the rows' words, and how many bytes their items have
pub record PlainRows (K : TagSet) (room : ℕ) (rs : List RowWords) (seen : TagSet) (items : ℕ) : Type 0 where
  pub good : right_rows (holds K) room 0 rs ≡ given tt
  pub right : rows_judged K no_tags 0 rs ≡ cond (holds seen 65) (given tt) (refused 15 0 0)
  pub words : present_in rs ≡ meet seen K
  pub size : items ≡ rows_size rs

-- the total size, the first and the last row
pub record PlainEnds (count : ℕ) (words : List ℕ) (items : ℕ) (p : Packed) : Type 0 where
  pub small : right_size p.size ≡ given tt
  pub right : right_ends (ends_in count words) ≡ given tt
  pub packed : p ≡ packed_by items

-- the whole
pub record FitsPlainly (K : TagSet) (h : Option TagSet) (room count : ℕ) (words : List ℕ) (p : Packed) : Type 0 where
  pub good : right_rows (holds K) room 0 (rows_in 0 count words) ≡ given tt
  pub fits : told_in K h count words ≡ given p
