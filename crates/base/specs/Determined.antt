-- What it is for a contract to determine everything: any two outcomes that it allows, of the same arguments, are equal.
-- An outcome is the result, and what is `left` in the memory lent, which is read off the parameters at exit.
-- Assumes nothing.
use Rattle.std.specs.Prelude.{ℕ, ◌≡◌, List}
use seplogic.Ra.Ura.{Ura}
use contract.Lifetimes.{Lfts}
use contract.Monad.{fact}
use denote.Triple.Clauses.{Ended, AtExit, Clauses}
use denote.Triple.Entry.{Args, Res}
use borrow.Fn.Kinds.{ParamKind, ResultKind, Out, Dens, res_t, ended_of}

module _ (n : ℕ) (ps : List (ParamKind n)) (r : ResultKind n) (contract : Out n ps r) where
  abbrev pub Determined : (S : Type 0) → ((κs : Lfts n) → AtExit (ended_of n ps r) κs → S) → Type 0
  Determined S left =
      (κs : Lfts n) (a : Dens κs ps) (z z' : (res_t r κs).Denot) (e e' : AtExit (ended_of n ps r) κs)
      → contract κs a z e → contract κs a z' e' → (z ≡ z') × (left κs e ≡ left κs e')

  -- of a function that may write nothing
  abbrev pub Answered : Type 0
  Answered =
      (κs : Lfts n) (a : Dens κs ps) (z z' : (res_t r κs).Denot) (e e' : AtExit (ended_of n ps r) κs)
      → contract κs a z e → contract κs a z' e' → z ≡ z'

  -- of a function that hands back lent memory: by what is read there
  abbrev pub Read : (S : Type 0) → ((κs : Lfts n) → (res_t r κs).Denot → S) → Type 0
  Read S seen =
      (κs : Lfts n) (a : Dens κs ps) (z z' : (res_t r κs).Denot) (e e' : AtExit (ended_of n ps r) κs)
      → contract κs a z e → contract κs a z' e' → seen κs z ≡ seen κs z'

-- of a function that holds references: what its contract says of an outcome is the fact `said`
abbrev pub Says : {M : Type 1} (𝓤 : Ura M) (T : Ended) → Clauses 𝓤 T
    → ((κs : Lfts T.signature.lifetimes) → Args T.signature κs → Res T.signature κs → AtExit T κs → Type 0) → Type 2
Says 𝓤 T contract said =
    (κs : Lfts T.signature.lifetimes) (a : Args T.signature κs) (g : (contract κs a).ghost) (z : Res T.signature κs) (e : AtExit T κs)
    → (contract κs a).ensures g z e ≡ fact 𝓤 (said κs a z e)
