-- What is sent, by how much room there is; and that an answer is what it says.
-- Assumes nothing.
use Prim.Native.Nat.{ℕ, ◌<◌, ◌≤◌}
use native.Mathlib.Omega.{arith}
use mathlib.Core.Path.{◌≡◌, ap, ◌∙◌}
use mathlib.Core.List.{List}
use lib.ListN.{length}
use borrow.Author.Tests.{lt-ltb, le-ltb}
use Rattle.base.specs.Putting.{Wrote}
use Rattle.base.proofs.Putting.{put_front}
use Rattle.refusal.specs.Answer.{given, refused, answer_said}
use Rattle.relay.specs.code.Sends.{Sends}
use Rattle.std.specs.Prelude.{Result, Ok}
use Rattle.refusal.specs.declared.Refusal.{Refusal}
use Rattle.writer.specs.declared.Written.{Written}

module _ {q o : List ℕ} {size : ℕ} (e : size ≡ length q) where
  pub too_short : {r : Result Written Refusal} → length o < size → answer_said r ≡ refused 18 0 0 → Sends q o r o
  too_short h s =
      let k : length o < length q = rw (← e) h in
      record { answer = s ∙ rw (lt-ltb (length o) (length q) k); output = rw (lt-ltb (length o) (length q) k) }

  pub all_sent : {n : ℕ} {o' : List ℕ} → Wrote o 0 q n o' → Sends q o (Ok (record { size = size })) o'
  all_sent w =
      let k : length q ≤ length o = omega arith in
      record {
        answer = ap (λ n. given (record { size = n })) e ∙ rw (le-ltb (length o) (length q) k);
        output = w.output ∙ (put_front o q k ∙ rw (le-ltb (length o) (length q) k));
      }
