-- `rows::row_at` meets its contract.
use native.Mathlib.Nat.{add-zero}
use mathlib.Core.Path.{refl}
use Rattle.rows.specs.Taken.{row_at}
use Rattle.rows.proofs.row_at.Goals as goal

pub returns-then-n-words : goal.returns-then-n-words
unfolding row_at
returns-then-n-words c = refl

pub returns : goal.returns
unfolding row_at
returns c = rw (c.word_at.ensures, c.word_at-2.ensures, c.word_at-3.ensures, c.word_at-4.ensures, add-zero)
