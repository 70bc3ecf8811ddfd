-- Each exported function's contract determines its answer and what it leaves in the memory lent.
-- Assumes nothing.
use Prim.Native.Nat.{ℕ}
use mathlib.Core.Path.{sym, ◌∙◌}
use mathlib.Core.List.{List}
use Rattle.base.specs.Determined.{Determined, Answered}
use Rattle.oysterknoll.proofs.oyk_check.Kinds as check-kinds
use Rattle.oysterknoll.proofs.oyk_check.Reads as check-reads
use Rattle.oysterknoll.proofs.oyk_read.Kinds as read-kinds
use Rattle.oysterknoll.proofs.oyk_read.Reads as read-reads
use Rattle.oysterknoll.proofs.oyk_take_row.Kinds as take-row-kinds
use Rattle.oysterknoll.proofs.oyk_take_row.Reads as take-row-reads
use Rattle.oysterknoll.proofs.oyk_write.Kinds as write-kinds
use Rattle.oysterknoll.proofs.oyk_write.Reads as write-reads
use Rattle.oysterknoll.proofs.oyk_write_with.Kinds as write-with-kinds
use Rattle.oysterknoll.proofs.oyk_write_with.Reads as write-with-reads
use Rattle.oysterknoll.proofs.oyk_has.Kinds as has-kinds
use Rattle.oysterknoll.proofs.oyk_has.Reads as has-reads
use Rattle.oysterknoll.proofs.oyk_forward.Kinds as forward-kinds
use Rattle.oysterknoll.proofs.oyk_forward.Reads as forward-reads
use Rattle.oysterknoll.proofs.oyk_to_house.Kinds as to-house-kinds
use Rattle.oysterknoll.proofs.oyk_to_house.Reads as to-house-reads
use Rattle.oysterknoll.proofs.oyk_to_code.Kinds as to-code-kinds
use Rattle.oysterknoll.proofs.oyk_to_code.Reads as to-code-reads
use Rattle.oysterknoll.proofs.oyk_sensor_height.Kinds as sensor-height-kinds
use Rattle.oysterknoll.proofs.oyk_sensor_height.Reads as sensor-height-reads
use Rattle.oysterknoll.proofs.oyk_frame_centre_height.Kinds as frame-centre-height-kinds
use Rattle.oysterknoll.proofs.oyk_frame_centre_height.Reads as frame-centre-height-reads
use Rattle.oysterknoll.proofs.oyk_corner.Kinds as corner-kinds
use Rattle.oysterknoll.proofs.oyk_corner.Reads as corner-reads
use Rattle.oysterknoll.proofs.oyk_version.Kinds as version-kinds
use Rattle.oysterknoll.proofs.oyk_version.Reads as version-reads
use Rattle.oysterknoll.proofs.oyk_start.Kinds as start-kinds
use Rattle.oysterknoll.proofs.oyk_start.Reads as start-reads
use Rattle.oysterknoll.proofs.oyk_next.Kinds as next-kinds
use Rattle.oysterknoll.proofs.oyk_next.Reads as next-reads
use Rattle.oysterknoll.proofs.oyk_item.Kinds as item-kinds
use Rattle.oysterknoll.proofs.oyk_item.Reads as item-reads
use Rattle.oysterknoll.proofs.oyk_list.Kinds as list-kinds
use Rattle.oysterknoll.proofs.oyk_list.Reads as list-reads

pub check_determined : Answered 1 check-kinds.ps check-kinds.r check-reads.Post
check_determined κs a z z' e e' p q = p ∙ sym q

pub read_determined : Determined 2 read-kinds.ps read-kinds.r read-reads.Post (List ℕ) (λ κs e. e.1.1.1.0.now)
read_determined κs a z z' e e' p q = (p.0 ∙ sym q.0, p.1 ∙ sym q.1)

pub take_row_determined : Answered 2 take-row-kinds.ps take-row-kinds.r take-row-reads.Post
take_row_determined κs a z z' e e' p q = p ∙ sym q

pub write_determined : Determined 3 write-kinds.ps write-kinds.r write-reads.Post (List ℕ) (λ κs e. e.1.1.1.1.1.0.now)
write_determined κs a z z' e e' p q = (p.0 ∙ sym q.0, p.1 ∙ sym q.1)

pub write_with_determined : Determined 3 write-with-kinds.ps write-with-kinds.r write-with-reads.Post (List ℕ) (λ κs e. e.1.1.1.1.1.1.1.0.now)
write_with_determined κs a z z' e e' p q = (p.0 ∙ sym q.0, p.1 ∙ sym q.1)

pub has_determined : Answered 0 has-kinds.ps has-kinds.r has-reads.Post
has_determined κs a z z' e e' p q = p ∙ sym q

pub forward_determined : Determined 2 forward-kinds.ps forward-kinds.r forward-reads.Post (List ℕ) (λ κs e. e.1.1.1.0.now)
forward_determined κs a z z' e e' p q = (p.0 ∙ sym q.0, p.1 ∙ sym q.1)

pub to_house_determined : Answered 0 to-house-kinds.ps to-house-kinds.r to-house-reads.Post
to_house_determined κs a z z' e e' p q = p ∙ sym q

pub to_code_determined : Answered 0 to-code-kinds.ps to-code-kinds.r to-code-reads.Post
to_code_determined κs a z z' e e' p q = p ∙ sym q

pub sensor_height_determined : Answered 1 sensor-height-kinds.ps sensor-height-kinds.r sensor-height-reads.Post
sensor_height_determined κs a z z' e e' p q = p ∙ sym q

pub frame_centre_height_determined : Answered 1 frame-centre-height-kinds.ps frame-centre-height-kinds.r frame-centre-height-reads.Post
frame_centre_height_determined κs a z z' e e' p q = p ∙ sym q

pub corner_determined : Answered 1 corner-kinds.ps corner-kinds.r corner-reads.Post
corner_determined κs a z z' e e' p q = p ∙ sym q

pub version_determined : Answered 0 version-kinds.ps version-kinds.r version-reads.Post
version_determined κs a z z' e e' p q = p ∙ sym q

pub start_determined : Answered 1 start-kinds.ps start-kinds.r start-reads.Post
start_determined κs a z z' e e' p q = p ∙ sym q

pub next_determined : Answered 1 next-kinds.ps next-kinds.r next-reads.Post
next_determined κs a z z' e e' p q = p ∙ sym q

pub item_determined : Answered 0 item-kinds.ps item-kinds.r item-reads.Post
item_determined κs a z z' e e' p q = p ∙ sym q

pub list_determined : Determined 2 list-kinds.ps list-kinds.r list-reads.Post (List ℕ) (λ κs e. e.1.0.now)
list_determined κs a z z' e e' p q = (p.0 ∙ sym q.0, p.1 ∙ sym q.1)
