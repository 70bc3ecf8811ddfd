-- `ground::Found::value_at` meets its contract.
use mathlib.Core.Path.{sym, ◌∙◌}
use Rattle.ground.proofs.Located.{stands}
use Rattle.ground.proofs.Found.value_at.Goals as goal

pub overflow_sub-end : goal.overflow_sub-end
overflow_sub-end g c =
    ((stands _ _ _ c.args.self.placed _ _ _ c.requires).at _ (sym c.in-Some.is ∙ c.place_of.ensures)).wide

pub slice_bounds-value-end : goal.slice_bounds-value-end
slice_bounds-value-end g c =
    ((stands _ _ _ c.args.self.placed _ _ _ c.requires).at _ (sym c.in-Some.is ∙ c.place_of.ensures)).inside

pub returns-in-Some : goal.returns-in-Some
returns-in-Some g c =
    c.in_house.ensures ∙ ((stands _ _ _ c.args.self.placed _ _ _ c.requires).at _ (sym c.in-Some.is ∙ c.place_of.ensures)).there _ c.value.ensures

pub returns-in-None : goal.returns-in-None
returns-in-None g c =
    (stands _ _ _ c.args.self.placed _ _ _ c.requires).none (sym c.in-None.is ∙ c.place_of.ensures)
