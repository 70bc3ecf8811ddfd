-- The shadow of the code: text put in a lent output, at the place that it has reached.
use Rattle.std.specs.Prelude.{ℕ, ◌≡◌, List}
use Rattle.base.specs.Putting.{Room, Wrote}
use Rattle.listing.specs.declared.Output.{Output}

abbrev pub HasRoom : Output → List ℕ → Type 0
HasRoom o text = Room o.bytes.now o.at text

-- it is the same output, and stands after the text
pub record Writes (o : Output) (text : List ℕ) (o' : Output) : Type 0 where
  pub same : o'.bytes.ghost_name ≡ o.bytes.ghost_name
  pub wrote : Wrote o.bytes.now o.at text o'.at o'.bytes.now
