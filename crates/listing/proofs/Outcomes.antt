-- Each public function's contract determines its answer and what it leaves in the output lent; an output of the named bound is never
-- too short.
-- Assumes nothing.
use Prim.Native.Nat.{ℕ, ◌≤◌}
use native.Mathlib.Omega.{arith}
use mathlib.Core.Path.{◌≡◌, sym, ◌∙◌}
use mathlib.Core.List.{List}
use lib.ListN.{length}
use borrow.Author.Tests.{le-ltb}
use Rattle.base.specs.Determined.{Determined}
use Rattle.refusal.specs.Answer.{given}
use Rattle.refusal.proofs.Laws.{answer_apart}
use Rattle.number.specs.Stored.{Bytes}
use Rattle.listing.specs.Listing.{listing_of, largest}
use Rattle.listing.specs.Lists.{text_answer}
use Rattle.listing.proofs.Sizes.{listing_short}
use Rattle.listing.proofs.list.Kinds as list-kinds
use Rattle.listing.proofs.list.Reads as list-reads
use Rattle.listing.proofs.list_accepted.Kinds as accepted-kinds
use Rattle.listing.proofs.list_accepted.Reads as accepted-reads

pub list_determined : Determined 2 list-kinds.ps list-kinds.r list-reads.Post (List ℕ) (λ κs e. e.1.0.now)
list_determined κs a z z' e e' p q = (answer_apart z z' (p.answer ∙ sym q.answer), p.output ∙ sym q.output)

pub list_accepted_determined : Determined 2 accepted-kinds.ps accepted-kinds.r accepted-reads.Post (List ℕ) (λ κs e. e.1.0.now)
list_accepted_determined κs a z z' e e' p q = (answer_apart z z' (p.answer ∙ sym q.answer), p.output ∙ sym q.output)

pub largest_enough : (p o : List ℕ) → Bytes p → largest ≤ length o → text_answer (listing_of p) o ≡ given (length (listing_of p))
unfolding text_answer
largest_enough p o by h = rw (le-ltb (length o) (length (listing_of p)) (omega (arith, listing_short p by)))
