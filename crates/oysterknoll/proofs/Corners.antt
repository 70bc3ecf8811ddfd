-- W-203: what C is handed of a corner lies in the ranges that the header tells, whether it is a point or not.
-- Assumes nothing.
use Prim.Native.Nat.{ℕ}
use mathlib.Core.Path.{◌≡◌, refl}
use mathlib.Core.Bool.{true, false}
use mathlib.Core.List.{List}
use Rattle.refusal.specs.Answer.{Answer, given, refused}
use Rattle.tagset.specs.declared.TagSet.{TagSet}
use Rattle.ground.specs.Earth.{beyond_pole, in_range}
use Rattle.ground.specs.Ground.{CornerSeen, no_corner, off_the_earth, on, corner_of}
use Rattle.ground.proofs.OnEarth.{corner_on_earth}
use Rattle.oysterknoll.specs.Answers.{corner_answer}
use Rattle.oysterknoll.specs.declared.CornerAnswer.{CornerAnswer}

abbrev pub Drawable : CornerAnswer → Type 0
Drawable r = (beyond_pole r.latitude ≡ false) × (in_range r.longitude ≡ true)

pub corner_drawable : (k : ℕ) (K : TagSet) (p : List ℕ) → Drawable (corner_answer (corner_of k K p))
corner_drawable k K p = go (corner_of k K p) refl
  where
    go : (a : Answer CornerSeen) → corner_of k K p ≡ a → Drawable (corner_answer a)
    go (given no_corner) e = (refl, refl)
    go (given off_the_earth) e = (refl, refl)
    go (given (on a b)) e = corner_on_earth k K p a b e
    go (refused n place tag) e = (refl, refl)
