-- What an answer says in document 01's terms: the values that it gives, or the refusal's number, place and tag.
use Rattle.std.specs.Prelude.{ℕ, Result, Ok, Err}
use Rattle.refusal.specs.Numbers.{number}
use Rattle.refusal.specs.declared.Refusal.{Refusal}

pub data Answer (A : Type 0) : Type 0 where
  given : A → Answer A
  refused : ℕ → ℕ → ℕ → Answer A

abbrev pub refusal : {A : Type 0} → Refusal → Answer A
refusal r = refused (number r.reason) r.place r.tag

-- what a function's result says
abbrev pub answer_said : {A : Type 0} → Result A Refusal → Answer A
answer_said (Ok a) = given a
answer_said (Err r) = refusal r

-- what is given, turned into something else; a refusal is passed on
abbrev pub map : {A B : Type 0} → (A → B) → Answer A → Answer B
map f (given a) = given (f a)
map f (refused n p t) = refused n p t

-- one answer and then another, which goes by what the first gives; the first refusal is the answer
abbrev pub then : {A B : Type 0} → Answer A → (A → Answer B) → Answer B
then (given a) next = next a
then (refused n p t) next = refused n p t

-- what is made of what is given, or what stands in its place after a refusal
abbrev pub or_else : {A B : Type 0} → B → (A → B) → Answer A → B
or_else otherwise f (given a) = f a
or_else otherwise f (refused n p t) = otherwise
