-- What a receiver adds: the first fault of the known items, "each known item in place order with 12, 13, 14; then 15".
-- It sees tags and values and never places.
use Rattle.std.specs.Prelude.{ℕ, zero, suc, Bool, false, cond, ◌||◌, List, [], ◌∷◌, length, eqb}
use Rattle.number.specs.Stored.{value_of}
use Rattle.catalogue.specs.Shapes.{shape_of, size_allowed, code_allowed}
use Rattle.packet.specs.Pieces.{Piece}
use Rattle.packet.specs.declared.Looked.{Looked}

-- the tags that a receiver knows
abbrev pub Knowing : Type 0
Knowing = ℕ → Bool

abbrev pub has : ℕ → List ℕ → Bool
has t [] = false
has t (u ∷ us) = eqb t u || has t us

-- the tags of a list
abbrev pub among : List ℕ → Knowing
among ts t = has t ts

pub data Fault : Type 0 where
  clean : Fault
  wrong : (number : ℕ) → Fault

-- the one rule of a known item, by what is looked at in it
abbrev pub fault_by : Looked → Fault
fault_by l =
    cond (size_allowed l.tag l.shape l.size)
    (cond l.twice (wrong 13) (cond (code_allowed l.tag l.size l.code) clean (wrong 14)))
    (wrong 12)

-- what is looked at in an item: its tag, its value's length and code, and whether its tag came before
abbrev pub looked : ℕ → ℕ → ℕ → Bool → Looked
looked tag size code twice = record { shape = shape_of tag; tag = tag; size = size; code = code; twice = twice }

-- an item that is not known is no fault; `seen` says which tags came before
unfoldable pub fault_of : Knowing → Knowing → Piece → Fault
fault_of K seen c = cond (K c.tag) (fault_by (looked c.tag (length c.value) (value_of c.value) (seen c.tag))) clean

-- no fault; the index, number and tag of the first; or no item 65
pub data Judged : Type 0 where
  fine : Judged
  faulty : (index number tag : ℕ) → Judged
  no_version : Judged

abbrev pub later : Judged → Judged
later fine = fine
later (faulty k n t) = faulty (suc k) n t
later no_version = no_version

abbrev pub on_fault : Fault → ℕ → Judged → Judged
on_fault clean t j = later j
on_fault (wrong n) t j = faulty zero n t

-- the tags seen so far are those of the items before
unfoldable pub judge_from : Knowing → List ℕ → List Piece → Judged
judge_from K seen [] = cond (has 65 seen) fine no_version
judge_from K seen (c ∷ cs) = on_fault (fault_of K (among seen) c) c.tag (judge_from K (c.tag ∷ seen) cs)

unfoldable pub judge : Knowing → List Piece → Judged
judge K cs = judge_from K [] cs
