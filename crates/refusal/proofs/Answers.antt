-- Answers one after another: what stands behind something given, and how maps and steps go together.
-- Assumes nothing.
use Prim.Native.Nat.{ℕ}
use mathlib.Core.Path.{◌≡◌, refl, ap}
use mathlib.Core.Bool.{Bool, true, false, cond}
use Rattle.base.proofs.Cases.{never}
use Rattle.std.specs.Prelude.{Result, Ok, Err, IsErrAnd}
use Rattle.refusal.specs.Answer.{Answer, given, refused, refusal, map, then, answer_said}
use Rattle.refusal.specs.declared.Refusal.{Refusal}

-- a refusal gives nothing
pub not_given {ℓ} : {C : Type ℓ} {A : Type 0} {x : A} {n p t : ℕ} → refused n p t ≡ given x → C
not_given e = never (cc)

-- a `?` hands a refusal on as it is
pub handed_on : {A : Type 0} {Q : Refusal → Type 0} (a : Result A Refusal) (r : Refusal) → IsErrAnd a Q → ((s : Refusal) → Q s → s ≡ r)
    → answer_said a ≡ refusal r
handed_on (Ok x) r q same = elim q [ ]
handed_on (Err s) r q same = ap refusal (same s q)

pub given_same : {A : Type 0} {x y : A} → given x ≡ given y → x ≡ y
given_same e = cc

-- a test that was passed, or missed, on the way to what is given
pub passed : {A : Type 0} (b : Bool) (x : Answer A) (n p t : ℕ) {y : A} → cond b x (refused n p t) ≡ given y → (b ≡ true) × (x ≡ given y)
passed true x n p t e = (refl, e)
passed false x n p t e = not_given e

pub missed : {A : Type 0} (b : Bool) (x : Answer A) (n p t : ℕ) {y : A} → cond b (refused n p t) x ≡ given y → (b ≡ false) × (x ≡ given y)
missed true x n p t e = not_given e
missed false x n p t e = (refl, e)

module _ {A B : Type 0} where
  -- what is given after two steps was given by each
  pub record Steps (a : Answer A) (f : A → Answer B) (y : B) : Type 0 where
    pub between : A
    pub first : a ≡ given between
    pub second : f between ≡ given y

  pub then_given : (a : Answer A) (f : A → Answer B) {y : B} → then a f ≡ given y → Steps a f y
  then_given (given x) f e = record { between = x; first = refl; second = e }
  then_given (refused n p t) f e = not_given e

  pub map_given : (f : A → B) (a : Answer A) {y : B} → map f a ≡ given y → (x : A) × (a ≡ given x) × (f x ≡ y)
  map_given f (given x) e = (x, refl, given_same e)
  map_given f (refused n p t) e = not_given e

  pub map_refused : (f : A → B) (a : Answer A) (n p t : ℕ) → map f a ≡ refused n p t → a ≡ refused n p t
  map_refused f (given x) n p t e = never (cc)
  map_refused f (refused m q u) n p t e = cc

  -- two steps are the same where they are for all that the first answer may give
  pub then_same : (a : Answer A) (f g : A → Answer B) → ((x : A) → a ≡ given x → f x ≡ g x) → then a f ≡ then a g
  then_same (given x) f g h = h x refl
  then_same (refused n p t) f g h = refl

  pub map_then : {C : Type 0} (h : B → C) (a : Answer A) (f : A → Answer B) → map h (then a f) ≡ then a (λ x. map h (f x))
  map_then h (given x) f = refl
  map_then h (refused n p t) f = refl

  pub then_then : {C : Type 0} (a : Answer A) (f : A → Answer B) (g : B → Answer C) → then (then a f) g ≡ then a (λ x. then (f x) g)
  then_then (given x) f g = refl
  then_then (refused n p t) f g = refl
