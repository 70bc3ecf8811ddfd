-- Each public function's contract determines its answer and what it leaves in the memory lent.
-- Assumes nothing.
use Prim.Native.Nat.{ℕ}
use mathlib.Core.Path.{sym, ◌∙◌}
use mathlib.Core.List.{List}
use Rattle.base.specs.Determined.{Determined, Answered}
use Rattle.base.proofs.Putting.{puts_once}
use Rattle.ber.proofs.Laws.{seen_apart}
use Rattle.ber.proofs.tag_at.Kinds as tag-at-kinds
use Rattle.ber.proofs.tag_at.Reads as tag-at-reads
use Rattle.ber.proofs.length_at.Kinds as length-at-kinds
use Rattle.ber.proofs.length_at.Reads as length-at-reads
use Rattle.ber.proofs.tag_size.Kinds as tag-size-kinds
use Rattle.ber.proofs.tag_size.Reads as tag-size-reads
use Rattle.ber.proofs.length_size.Kinds as length-size-kinds
use Rattle.ber.proofs.length_size.Reads as length-size-reads
use Rattle.ber.proofs.put_tag.Kinds as put-tag-kinds
use Rattle.ber.proofs.put_tag.Reads as put-tag-reads
use Rattle.ber.proofs.put_length.Kinds as put-length-kinds
use Rattle.ber.proofs.put_length.Reads as put-length-reads

pub tag_at_determined : Answered 1 tag-at-kinds.ps tag-at-kinds.r tag-at-reads.Post
tag_at_determined κs a z z' e e' p q = seen_apart z z' (p ∙ sym q)

pub length_at_determined : Answered 1 length-at-kinds.ps length-at-kinds.r length-at-reads.Post
length_at_determined κs a z z' e e' p q = seen_apart z z' (p ∙ sym q)

pub tag_size_determined : Answered 0 tag-size-kinds.ps tag-size-kinds.r tag-size-reads.Post
tag_size_determined κs a z z' e e' p q = p ∙ sym q

pub length_size_determined : Answered 0 length-size-kinds.ps length-size-kinds.r length-size-reads.Post
length_size_determined κs a z z' e e' p q = p ∙ sym q

pub put_tag_determined : Determined 1 put-tag-kinds.ps put-tag-kinds.r put-tag-reads.Post (List ℕ) (λ κs e. e.0.now)
put_tag_determined κs a z z' e e' p q = puts_once p q

pub put_length_determined : Determined 1 put-length-kinds.ps put-length-kinds.r put-length-reads.Post (List ℕ) (λ κs e. e.0.now)
put_length_determined κs a z z' e e' p q = puts_once p q
