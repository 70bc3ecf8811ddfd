-- Document 01, Packet: what makes bytes a packet, whoever reads it: refusals 3 to 11, or the items.
use Rattle.std.specs.Prelude.{ℕ, ◌+◌, ◌≡◌, Bool, true, false, cond, ◌&&◌, List, [], ◌∷◌, length, take, drop, ltb, eqb}
use Rattle.refusal.specs.Answer.{Answer, given, refused, then}
use Rattle.number.specs.Stored.{value_of}
use Rattle.ber.specs.Read.{Read, got, broken, read_length}
use Rattle.checksum.specs.Sum.{checksum_of}
use Rattle.packet.specs.Pieces.{Item, walk}
use Rattle.packet.specs.Ends.{right_ends}
use Rattle.packet.specs.declared.Ends.{Ends}

unfoldable pub key : List ℕ
key =
    0x06 ∷ 0x0E ∷ 0x2B ∷ 0x34 ∷ 0x02 ∷ 0x0B ∷ 0x01 ∷ 0x01 ∷ 0x0E ∷ 0x01 ∷ 0x03 ∷ 0x01 ∷ 0x01 ∷ 0x00 ∷ 0x00 ∷ 0x00 ∷ []

abbrev pub same : List ℕ → List ℕ → Bool
same [] [] = true
same [] (b ∷ m) = false
same (a ∷ l) [] = false
same (a ∷ l) (b ∷ m) = eqb a b && same l m

abbrev pub last_of : Item → List Item → Item
last_of i [] = i
last_of i (j ∷ js) = last_of j js

-- 3, 4 and 5, or where the items begin: "The outer length must equal the number of bytes left."
abbrev pub outer_by : List ℕ → Read → Answer ℕ
outer_by p broken = refused 5 16 0
outer_by p (got n s) = cond (eqb (length p) (16 + s + n)) (given (16 + s)) (refused 5 16 0)

unfoldable pub frame : List ℕ → Answer ℕ
frame p =
    cond (ltb 8192 (length p)) (refused 3 0 0)
    (cond (same (take 16 p) key) (outer_by p (read_length (drop 16 p))) (refused 4 0 0))

-- 9 and 10: "its start (packet length if absent)"
abbrev pub ends_of : List ℕ → List Item → Ends
ends_of p [] = record { start = length p; first = 0; end = 0; last = 0; size = 0 }
ends_of p (i ∷ is) =
    let z = last_of i is in
    record { start = i.start; first = i.piece.tag; end = z.start; last = z.piece.tag; size = length z.piece.value }

-- 11: the checksum runs over every byte before its value
unfoldable pub right_sum : List ℕ → ℕ → List ℕ → Answer (Unit {0})
right_sum p place value = cond (eqb (value_of value) (checksum_of (take place p))) (given tt) (refused 11 place 1)

abbrev pub last_sum : List ℕ → List Item → Answer (Unit {0})
last_sum p [] = given tt
last_sum p (i ∷ is) = let z = last_of i is in right_sum p z.place z.piece.value

-- the items found from a place on, once first, last and sum are right
abbrev pub closed : List ℕ → List Item → Answer (List Item)
closed p is = then (right_ends (ends_of p is)) (λ _. then (last_sum p is) (λ _. given is))

unfoldable pub structure : List ℕ → Answer (List Item)
structure p = then (frame p) (λ from. then (walk 128 from (drop from p)) (closed p))

-- a packet whose structure is right, and whose items begin at a place
pub record ItemsFrom (p : List ℕ) (from : ℕ) : Type 0 where
  pub items : List Item
  pub found : structure p ≡ given items
  pub walked : walk 128 from (drop from p) ≡ given items
