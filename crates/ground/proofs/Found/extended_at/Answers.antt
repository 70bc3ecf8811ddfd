-- `ground::Found::extended_at` meets its contract.
use Prim.Native.Nat.{ℕ, ◌+◌, ◌-◌}
use mathlib.Core.Path.{◌≡◌, sym, ◌∙◌}
use native.Mathlib.Omega.{arith}
use lib.ListN.{get_or}
use Rattle.ground.proofs.Located.{height_stands}
use Rattle.ground.proofs.Found.extended_at.Goals as goal

pub bounds-self-place : goal.bounds-self-place
bounds-self-place c =
    ((height_stands _ _ _ c.args.self.placed _ c.requires).at _ (sym c.in-Some.is ∙ c.place_of.ensures)).before

pub slice_bounds-value-end : goal.slice_bounds-value-end
slice_bounds-value-end c =
    ((height_stands _ _ _ c.args.self.placed _ c.requires).at _ (sym c.in-Some.is ∙ c.place_of.ensures)).inside

pub returns-in-Some : goal.returns-in-Some
returns-in-Some c =
    let size : ℕ = get_or c.args.self.packet.now (c.in-Some.place - 1) 0 in
    let n : c.in-Some.place + size - c.in-Some.place ≡ size = omega arith in
    c.in_house.ensures
    ∙ ((height_stands _ _ _ c.args.self.placed _ c.requires).at _ (sym c.in-Some.is ∙ c.place_of.ensures)).there _ (rw n at c.value.ensures)

pub returns-in-None : goal.returns-in-None
returns-in-None c =
    (height_stands _ _ _ c.args.self.placed _ c.requires).none (sym c.in-None.is ∙ c.place_of.ensures)
