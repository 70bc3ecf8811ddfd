use Prim.Native.Nat.{◌^◌, ◌<◌, ◌≤◌}
use mathlib.Core.Path.{◌≡◌}
use lib.ListN.{length, drop}
use Rattle.console.specs.Word.{word_from, word_of}
use Rattle.console.proofs.word_of.Given as goal

abbrev pub invariant-loop-byte : goal.invariant-loop-byte
invariant-loop-byte l =
    (length l.text ≤ 16) × (l.value < 16 ^ l.byte-index) × (word_from l.value (drop l.byte-index l.text) ≡ word_of l.text)
