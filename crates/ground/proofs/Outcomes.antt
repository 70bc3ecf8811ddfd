-- Each public function's contract determines its answer.
-- Assumes nothing.
use mathlib.Core.Path.{◌≡◌, ap, sym, ◌∙◌}
use Rattle.base.proofs.Cases.{never}
use Rattle.base.specs.Determined.{Answered}
use Rattle.std.specs.Prelude.{Result, Ok, Err}
use Rattle.refusal.specs.Answer.{map, answer_said}
use Rattle.refusal.specs.declared.Refusal.{Refusal}
use Rattle.refusal.proofs.Answers.{given_same}
use Rattle.refusal.proofs.Laws.{refusal_apart}
use Rattle.ground.specs.Said.{height_said, corner_said}
use Rattle.ground.specs.declared.Height.{Height}
use Rattle.ground.specs.declared.Height.TheVariants as height
use Rattle.ground.specs.declared.Corner.{Corner}
use Rattle.ground.specs.declared.Corner.TheVariants as corner
use Rattle.ground.proofs.sensor_height.Kinds as sensor-kinds
use Rattle.ground.proofs.sensor_height.Reads as sensor-reads
use Rattle.ground.proofs.frame_centre_height.Kinds as centre-kinds
use Rattle.ground.proofs.frame_centre_height.Reads as centre-reads
use Rattle.ground.proofs.corner_at.Kinds as corner-kinds
use Rattle.ground.proofs.corner_at.Reads as corner-reads

pub height_apart : (a b : Height) → height_said a ≡ height_said b → a ≡ b
height_apart (height.OverEllipsoid x) (height.OverEllipsoid y) e =
    let c : x.0 ≡ y.0 = cc in
    λ i. height.OverEllipsoid (record { 0 = c i })
height_apart (height.OverSeaLevel x) (height.OverSeaLevel y) e =
    let c : x.0 ≡ y.0 = cc in
    λ i. height.OverSeaLevel (record { 0 = c i })
height_apart height.Missing height.Missing e = λ i. height.Missing
height_apart (height.OverEllipsoid x) (height.OverSeaLevel y) e = never (cc)
height_apart (height.OverEllipsoid x) height.Missing e = never (cc)
height_apart (height.OverSeaLevel x) (height.OverEllipsoid y) e = never (cc)
height_apart (height.OverSeaLevel x) height.Missing e = never (cc)
height_apart height.Missing (height.OverEllipsoid y) e = never (cc)
height_apart height.Missing (height.OverSeaLevel y) e = never (cc)

pub corner_apart : (a b : Corner) → corner_said a ≡ corner_said b → a ≡ b
corner_apart (corner.At x) (corner.At y) e =
    let c : x.latitude ≡ y.latitude = cc in
    let d : x.longitude ≡ y.longitude = cc in
    λ i. corner.At (record { latitude = c i; longitude = d i })
corner_apart corner.OffTheEarth corner.OffTheEarth e = λ i. corner.OffTheEarth
corner_apart corner.Missing corner.Missing e = λ i. corner.Missing
corner_apart (corner.At x) corner.OffTheEarth e = never (cc)
corner_apart (corner.At x) corner.Missing e = never (cc)
corner_apart corner.OffTheEarth (corner.At y) e = never (cc)
corner_apart corner.OffTheEarth corner.Missing e = never (cc)
corner_apart corner.Missing (corner.At y) e = never (cc)
corner_apart corner.Missing corner.OffTheEarth e = never (cc)

-- what is made of a result that is said tells results apart where what is made of its value does
module _ {A B : Type 0} (said : A → B) (apart : (x y : A) → said x ≡ said y → x ≡ y) where
  pub result_apart : (a b : Result A Refusal) → map said (answer_said a) ≡ map said (answer_said b) → a ≡ b
  result_apart (Ok x) (Ok y) e = ap Ok (apart x y (given_same e))
  result_apart (Ok x) (Err s) e = never (cc)
  result_apart (Err r) (Ok y) e = never (cc)
  result_apart (Err r) (Err s) e = ap Err (refusal_apart r s e)

pub sensor_height_determined : Answered 1 sensor-kinds.ps sensor-kinds.r sensor-reads.Post
sensor_height_determined κs a z z' e e' p q = result_apart height_said height_apart z z' (p ∙ sym q)

pub frame_centre_height_determined : Answered 1 centre-kinds.ps centre-kinds.r centre-reads.Post
frame_centre_height_determined κs a z z' e e' p q = result_apart height_said height_apart z z' (p ∙ sym q)

pub corner_at_determined : Answered 1 corner-kinds.ps corner-kinds.r corner-reads.Post
corner_at_determined κs a z z' e e' p q = result_apart corner_said corner_apart z z' (p ∙ sym q)
