-- Each public function's contract determines its answer and what it leaves in the output lent.
-- Assumes nothing.
use Prim.Native.Nat.{ℕ}
use mathlib.Core.Path.{◌≡◌, refl, sym, ◌∙◌}
use mathlib.Core.List.{List}
use lib.ListN.{length}
use seplogic.Ra.Ura.{Ura}
use base.Logic.{SProp}
use prog.Memory.{Memory}
use prog.Routine.{Routine}
use types.Logic.{Logic}
use contract.Lifetimes.{Lfts}
use contract.Monad.{Fun}
use denote.Triple.Clauses.{AtExit}
use denote.Triple.Entry.{Args}
use Rattle.base.specs.Determined.{Determined, Says}
use Rattle.writer.specs.Writes.{Writes}
use Rattle.records.specs.Images.{image_table}
use Rattle.records.specs.contracts.write_records as write-records
use Rattle.records.proofs.write_three.Kinds as write-three-kinds
use Rattle.records.proofs.write_three.Reads as write-three-reads
use Rattle.std.specs.Prelude.{Result}
use Rattle.refusal.specs.declared.Refusal.{Refusal}
use Rattle.writer.specs.declared.Written.{Written}
use Rattle.refusal.proofs.Laws.{answer_apart}

-- the contract of `write_records`
module _ (κs : Lfts 3) (a : Args write-records.signature κs) where
  abbrev pub Wrote : Result Written Refusal → AtExit write-records.ended κs → Type 0
  Wrote z e = let rs = a.1.0.now in Writes a.0 (length rs) (image_table rs) a.1.1.0.now a.1.1.1.0.now z e.1.1.1.0.now

  pub write_records_determined : (z z' : Result Written Refusal) (e e' : AtExit write-records.ended κs) → Wrote z e → Wrote z' e'
      → (z ≡ z') × (e.1.1.1.0.now ≡ e'.1.1.1.0.now)
  write_records_determined z z' e e' p q = (answer_apart z z' (p.answer ∙ sym q.answer), p.output ∙ sym q.output)

pub write_records_says : {M : Type 1} {𝓤 : Ura M} (𝓛 : Logic 𝓤) (mem : Memory → SProp 𝓤) (run : Routine → Fun 𝓤)
    → Says 𝓤 write-records.ended (write-records.clauses 𝓛 mem run) Wrote
write_records_says 𝓛 mem run κs a g z e = refl

pub write_three_determined : Determined 2 write-three-kinds.ps write-three-kinds.r write-three-reads.Post (List ℕ) (λ κs e. e.1.1.1.0.now)
write_three_determined κs a z z' e e' p q = (answer_apart z z' (p.answer ∙ sym q.answer), p.output ∙ sym q.output)
