-- Each public function's contract determines its answer.
-- Assumes nothing.
use mathlib.Core.Path.{◌≡◌, refl, ap, sym, ◌∙◌}
use Rattle.base.proofs.Cases.{never}
use Rattle.base.specs.Determined.{Answered}
use Rattle.refusal.proofs.Laws.{number_apart, answer_apart}
use Rattle.packet.specs.Said.{fault_said}
use Rattle.packet.proofs.item_at.Kinds as item-at-kinds
use Rattle.packet.proofs.item_at.Reads as item-at-reads
use Rattle.packet.proofs.fault_of.Kinds as fault-of-kinds
use Rattle.packet.proofs.fault_of.Reads as fault-of-reads
use Rattle.packet.proofs.check_ends.Kinds as check-ends-kinds
use Rattle.packet.proofs.check_ends.Reads as check-ends-reads
use Rattle.packet.proofs.check.Kinds as check-kinds
use Rattle.packet.proofs.check.Reads as check-reads
use Rattle.packet.proofs.locate.Kinds as locate-kinds
use Rattle.packet.proofs.locate.Reads as locate-reads
use Rattle.std.specs.Prelude.{Result, Ok, Err}
use Rattle.refusal.specs.declared.Reason.{Reason}

fault_apart : (a b : Result (Unit {0}) Reason) → fault_said a ≡ fault_said b → a ≡ b
fault_apart (Ok u) (Ok v) e = refl
fault_apart (Ok u) (Err s) e = never (cc)
fault_apart (Err r) (Ok v) e = never (cc)
fault_apart (Err r) (Err s) e = ap Err (number_apart r s cc)

pub item_at_determined : Answered 1 item-at-kinds.ps item-at-kinds.r item-at-reads.Post
item_at_determined κs a z z' e e' p q = answer_apart z z' (p ∙ sym q)

pub fault_of_determined : Answered 0 fault-of-kinds.ps fault-of-kinds.r fault-of-reads.Post
fault_of_determined κs a z z' e e' p q = fault_apart z z' (p ∙ sym q)

pub check_ends_determined : Answered 0 check-ends-kinds.ps check-ends-kinds.r check-ends-reads.Post
check_ends_determined κs a z z' e e' p q = answer_apart z z' (p ∙ sym q)

pub check_determined : Answered 1 check-kinds.ps check-kinds.r check-reads.Post
check_determined κs a z z' e e' p q = answer_apart z z' (p ∙ sym q)

pub locate_determined : Answered 1 locate-kinds.ps locate-kinds.r locate-reads.Post
locate_determined κs a z z' e e' p q = answer_apart z z' (p ∙ sym q)
