-- Each public function's contract determines its answer and what it leaves in the memory lent.
-- Assumes nothing.
use Prim.Native.Nat.{ℕ}
use mathlib.Core.Path.{sym, ◌∙◌}
use mathlib.Core.List.{List}
use Rattle.base.specs.Determined.{Determined, Answered}
use Rattle.base.proofs.Putting.{puts_once}
use Rattle.spelling.proofs.decimal_size.Kinds as decimal-size-kinds
use Rattle.spelling.proofs.decimal_size.Reads as decimal-size-reads
use Rattle.spelling.proofs.whole_size.Kinds as whole-size-kinds
use Rattle.spelling.proofs.whole_size.Reads as whole-size-reads
use Rattle.spelling.proofs.put_decimal.Kinds as put-decimal-kinds
use Rattle.spelling.proofs.put_decimal.Reads as put-decimal-reads
use Rattle.spelling.proofs.put_whole.Kinds as put-whole-kinds
use Rattle.spelling.proofs.put_whole.Reads as put-whole-reads
use Rattle.spelling.proofs.put_hex.Kinds as put-hex-kinds
use Rattle.spelling.proofs.put_hex.Reads as put-hex-reads
use Rattle.spelling.proofs.put_text.Kinds as put-text-kinds
use Rattle.spelling.proofs.put_text.Reads as put-text-reads

pub decimal_size_determined : Answered 0 decimal-size-kinds.ps decimal-size-kinds.r decimal-size-reads.Post
decimal_size_determined κs a z z' e e' p q = p ∙ sym q

pub whole_size_determined : Answered 0 whole-size-kinds.ps whole-size-kinds.r whole-size-reads.Post
whole_size_determined κs a z z' e e' p q = p ∙ sym q

pub put_decimal_determined : Determined 1 put-decimal-kinds.ps put-decimal-kinds.r put-decimal-reads.Post (List ℕ) (λ κs e. e.0.now)
put_decimal_determined κs a z z' e e' p q = puts_once p q

pub put_whole_determined : Determined 1 put-whole-kinds.ps put-whole-kinds.r put-whole-reads.Post (List ℕ) (λ κs e. e.0.now)
put_whole_determined κs a z z' e e' p q = puts_once p q

pub put_hex_determined : Determined 2 put-hex-kinds.ps put-hex-kinds.r put-hex-reads.Post (List ℕ) (λ κs e. e.0.now)
put_hex_determined κs a z z' e e' p q = puts_once p q

pub put_text_determined : Determined 2 put-text-kinds.ps put-text-kinds.r put-text-reads.Post (List ℕ) (λ κs e. e.0.now)
put_text_determined κs a z z' e e' p q = puts_once p q
