-- `packet::stopped` meets its contract.
use Prim.Native.Nat.{ℕ, suc, ◌+◌, ◌-◌, ◌≤◌}
use mathlib.Core.Path.{◌≡◌, sym, ap, ◌∙◌}
use native.Mathlib.Omega.{arith}
use lib.ListN.{drop}
use Rattle.packet.specs.Pieces.{walk}
use Rattle.packet.proofs.Walks.{walk_full, walk_refused}
use Rattle.packet.proofs.stopped.Goals as goal

left : (n : ℕ) → n ≤ 128 → (n ≡ 128 → ⊥) → 128 - n ≡ suc (128 - (n + 1))
left n h k = omega arith

pub returns-then-count-eq128 : goal.returns-then-count-eq128
returns-then-count-eq128 c =
    let a = c.args in
    let e : 128 - a.count ≡ 0 = omega (arith, c.if-count-eq128.true) in
    ap (λ n. walk n a.here (drop a.here a.packet.now)) e ∙ walk_full _ _ c.requires.before

pub returns-in-Err : goal.returns-in-Err
returns-in-Err c =
    let a = c.args in
    ap (λ n. walk n a.here (drop a.here a.packet.now)) (left a.count c.requires.few c.if-count-eq128.false)
    ∙ walk_refused _ _ c.requires.before _ _ _ _ (sym c.in-Err.ensures)
