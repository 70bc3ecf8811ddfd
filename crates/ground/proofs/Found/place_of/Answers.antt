-- `ground::Found::place_of` meets its contract.
use Prim.Native.Nat.{◌<◌}
use mathlib.Core.Path.{sym, ◌∙◌}
use borrow.Author.Rules.{rules}
use Rattle.ground.proofs.Located.{below_held}
use Rattle.ground.proofs.Found.place_of.Goals as goal

pub bounds-self-tag : goal.bounds-self-tag
bounds-self-tag c =
    below_held _ _ _ c.args.self.placed _ (sym c.has.ensures ∙ c.if-has.true)

pub offset_bounds-self-tag : goal.offset_bounds-self-tag
offset_bounds-self-tag c =
    let below : c.args.tag < 128 =
    below_held _ _ _ c.args.self.placed _ (sym c.has.ensures ∙ c.if-has.true) in
    search rules
