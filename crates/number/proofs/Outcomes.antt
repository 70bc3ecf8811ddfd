-- Each public function's contract determines its answer and what it leaves in the memory lent.
-- Assumes nothing.
use mathlib.Core.Path.{sym, ◌∙◌, refl}
use mathlib.Core.List.{List}
use Prim.Native.Nat.{ℕ}
use Rattle.base.specs.Determined.{Determined, Answered}
use Rattle.number.proofs.value.Kinds as value-kinds
use Rattle.number.proofs.value.Reads as value-reads
use Rattle.number.proofs.put.Kinds as put-kinds
use Rattle.number.proofs.put.Reads as put_reads

pub value_determined : Answered 1 value-kinds.ps value-kinds.r value-reads.Post
value_determined κs a z z' e e' p q = p ∙ sym q

pub put_determined : Determined 1 put-kinds.ps put-kinds.r put_reads.Post (List ℕ) (λ κs e. e.0.now)
put_determined κs a z z' e e' p q = (refl, p ∙ sym q)
