-- `walker::value_number` meets its contract.
use Rattle.std.proofs.Common.{◌≡◌, ℕ, ◌+◌, List, ap, ◌∙◌, add-one}
use Rattle.tagset.specs.declared.TagSet.{TagSet}
use Rattle.walker.specs.Steps.{next_at, place_number}
use Rattle.walker.specs.declared.Walker.{Walker}
use Rattle.walker.proofs.value_number.Goals as goal

place_after : (K : TagSet) (p q : List ℕ) (i at : ℕ) → q ≡ p → at ≡ place_number K p i → next_at q at ≡ place_number K p (i + 1)
unfolding place_number
place_after K p q i at e f = rw (e, f, add-one)

pub loop-init : goal.loop-init
unfolding place_number
loop-init c =
    let e = c.start.ensures.walker in
    (ap (λ (w : Walker). w.packet.now) e, ap (λ (w : Walker). w.known) e, ap (λ (w : Walker). w.at) e)

pub loop-preserved : goal.loop-preserved
loop-preserved c =
    let kept = c.loop.invariant in
    let e = c.next.ensures.rest in (
      ap (λ (w : Walker). w.packet.now) e ∙ kept.0,
      ap (λ (w : Walker). w.known) e ∙ kept.1,
      ap (λ (w : Walker). w.at) e ∙ place_after _ _ _ _ _ kept.0 kept.2,
    )
