-- The number tells any two reasons apart, and number, place and tag any two refusals.
-- Assumes nothing.
use Prim.Native.Nat.{ℕ, ◌-◌}
use mathlib.Core.Path.{◌≡◌, refl, sym, ap, ◌∙◌}
use mathlib.Core.List.{List, [], ◌∷◌}
use lib.ListN.{get_or}
use Rattle.refusal.specs.Numbers.{number}
use Rattle.std.specs.Prelude.{Result, Ok, Err}
use Rattle.refusal.specs.Answer.{Answer, given, refused, refusal, answer_said}
use Rattle.refusal.specs.declared.Refusal.{Refusal}
use Rattle.refusal.specs.declared.Reason.{Reason}
use Rattle.refusal.specs.declared.Reason.TheVariants.{SetNotGood, TableTooShort, PacketTooLong, KeyDiffers, OuterLengthWrong, TooManyItems, TagBroken}
use Rattle.refusal.specs.declared.Reason.TheVariants.{LengthBroken, FirstNotTimeStamp, LastNotChecksum, ChecksumDiffers, LengthNotAllowed}
use Rattle.refusal.specs.declared.Reason.TheVariants.{KnownTagTwice, CodeNotAllowed, VersionMissing, RowCountTooLarge, RowBad, OutputTooShort}
use Rattle.refusal.specs.declared.Reason.TheVariants.{NoScale, NotANumber, ValueOutOfRange, WordsDisagree}

reasons : List Reason
reasons =
    SetNotGood ∷ TableTooShort ∷ PacketTooLong ∷ KeyDiffers ∷ OuterLengthWrong ∷ TooManyItems ∷ TagBroken
    ∷ LengthBroken ∷ FirstNotTimeStamp ∷ LastNotChecksum ∷ ChecksumDiffers ∷ LengthNotAllowed ∷ KnownTagTwice
    ∷ CodeNotAllowed ∷ VersionMissing ∷ RowCountTooLarge ∷ RowBad ∷ OutputTooShort ∷ NoScale ∷ NotANumber
    ∷ ValueOutOfRange ∷ WordsDisagree ∷ []

pub numbered : ℕ → Reason
numbered n = get_or reasons (n - 1) SetNotGood

number_back : (r : Reason) → numbered (number r) ≡ r
unfolding numbered reasons
number_back SetNotGood = refl
number_back TableTooShort = refl
number_back PacketTooLong = refl
number_back KeyDiffers = refl
number_back OuterLengthWrong = refl
number_back TooManyItems = refl
number_back TagBroken = refl
number_back LengthBroken = refl
number_back FirstNotTimeStamp = refl
number_back LastNotChecksum = refl
number_back ChecksumDiffers = refl
number_back LengthNotAllowed = refl
number_back KnownTagTwice = refl
number_back CodeNotAllowed = refl
number_back VersionMissing = refl
number_back RowCountTooLarge = refl
number_back RowBad = refl
number_back OutputTooShort = refl
number_back NoScale = refl
number_back NotANumber = refl
number_back ValueOutOfRange = refl
number_back WordsDisagree = refl

pub number_apart : (r s : Reason) → number r ≡ number s → r ≡ s
number_apart r s e = sym (number_back r) ∙ ap numbered e ∙ number_back s

pub refusal_apart : {A : Type 0} (a b : Refusal) → ◌≡◌ {A = Answer A} (refusal a) (refusal b) → a ≡ b
refusal_apart a b e =
    let n : number a.reason ≡ number b.reason = cc in
    let r : a.reason ≡ b.reason = number_apart a.reason b.reason n in
    let p : a.place ≡ b.place = cc in
    let t : a.tag ≡ b.tag = cc in
    λ i. record { reason = r i; place = p i; tag = t i }

-- an answer made of what it says, and that no two answers say the same where each is made so
module _ {A W : Type 0} (make : A → W) (refuse : Refusal → W) where
  abbrev pub made : Answer A → W
  made (given a) = make a
  made (refused n p t) = refuse (record { reason = numbered n; place = p; tag = t })

  pub refuse_made : (r : Refusal) → made (refusal r) ≡ refuse r
  refuse_made r = ap (λ n. refuse (record { reason = n; place = r.place; tag = r.tag })) (number_back r.reason)

  pub told_apart : (said : W → Answer A) → ((w : W) → made (said w) ≡ w) → (a b : W) → said a ≡ said b → a ≡ b
  told_apart said back a b e = sym (back a) ∙ (ap made e ∙ back b)

-- what a function's result says tells any two results apart
module _ {A : Type 0} where
  result_made : (r : Result A Refusal) → made Ok Err (answer_said r) ≡ r
  result_made (Ok x) = refl
  result_made (Err r) = refuse_made Ok Err r

  pub answer_apart : (a b : Result A Refusal) → answer_said a ≡ answer_said b → a ≡ b
  answer_apart = told_apart Ok Err answer_said result_made
