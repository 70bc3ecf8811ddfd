-- Going by the cases of a test, and the set of rules that closes the returns of a function that goes by tests.
-- Assumes nothing.
use Prim.Native.Nat.{ℕ, ◌<◌, ◌≤◌}
use mathlib.Core.Path.{◌≡◌, refl, sym}
use native.Mathlib.Omega.{arith}
use mathlib.Core.Bool.{Bool, true, false, not, ◌||◌}
use lib.Dec.{ltb, eqb}
use borrow.Author.Rules.{rules}
use borrow.Author.Tests.{le-leb, lt-leb, lt-ltb, le-ltb, eq-eqb, ne_eqb, ltb-true, ltb-false, eqb-true, eqb-false}

pub ruleset cases = (rules, le-leb, lt-leb, lt-ltb, le-ltb, eq-eqb, ne_eqb)

pub by_bool {ℓ} : {C : Type ℓ} (b : Bool) → (b ≡ true → C) → (b ≡ false → C) → C
by_bool true f g = f refl
by_bool false f g = g refl

pub by_lt {ℓ} : {C : Type ℓ} (a b : ℕ) → (a < b → C) → (b ≤ a → C) → C
by_lt a b f g = by_bool (ltb a b) (λ e. f (ltb-true a b e)) (λ e. g (ltb-false a b e))

pub by_eq {ℓ} : {C : Type ℓ} (a b : ℕ) → (a ≡ b → C) → ((a ≡ b → ⊥) → C) → C
by_eq a b f g = by_bool (eqb a b) (λ e. f (eqb-true a b e)) (λ e. g (eqb-false a b e))

-- two tests that pass together are equal
pub same_test : (a b : Bool) → (a ≡ true → b ≡ true) → (b ≡ true → a ≡ true) → a ≡ b
same_test true b f g = sym (f refl)
same_test false true f g = g refl
same_test false false f g = refl

-- two constructors that are equal, by `never (cc)`
pub never {ℓ} : {C : Type ℓ} → ◌≡◌ {A = ℕ} 0 1 → C
never e = absurd (omega arith)

-- a test that passes and fails
pub clash {ℓ} : {C : Type ℓ} → true ≡ false → C
clash e = never (cc)

-- the second test passes wherever the first does
pub unless : (a b : Bool) → not a || b ≡ true → a ≡ true → b ≡ true
unless true b e f = e
unless false b e f = clash (sym f)

pub unless_true : (a b : Bool) → (a ≡ true → b ≡ true) → not a || b ≡ true
unless_true true b f = f refl
unless_true false b f = refl
