-- Document 01, Packet: "Items fill the rest without gap: tag, length, value."
use Rattle.std.specs.Prelude.{ℕ, zero, suc, ◌+◌, cond, List, [], ◌∷◌, length, take, drop, ltb, leb}
use Rattle.refusal.specs.Answer.{Answer, given, refused, map}
use Rattle.ber.specs.Read.{Read, got, broken, read_tag, read_length}

-- what an item means, whoever reads it and wherever it stands
pub record Piece : Type 0 where
  pub tag : ℕ
  pub value : List ℕ

-- where it starts, and where its value stands
pub record Item : Type 0 where
  pub start : ℕ
  pub place : ℕ
  pub piece : Piece

abbrev pub pieces : List Item → List Piece
pieces [] = []
pieces (i ∷ is) = i.piece ∷ pieces is

-- the item that begins a list: its tag, how many bytes stand before its value, and how many its value has
pub data Step : Type 0 where
  no_tag : Step
  no_length : (tag : ℕ) → Step
  one : (tag head size : ℕ) → Step

-- the tag took s bytes of m, the length k
abbrev pub after_length : ℕ → ℕ → ℕ → Read → Step
after_length m t s broken = no_length t
after_length m t s (got n k) = cond (leb (s + k + n) m) (one t (s + k) n) (no_length t)

abbrev pub after_tag : List ℕ → Read → Step
after_tag l broken = no_tag
after_tag l (got t s) = after_length (length l) t s (read_length (drop s l))

unfoldable pub read_item : List ℕ → Step
read_item l = after_tag l (read_tag l)

-- an item before the items that follow
abbrev pub before : Item → Answer (List Item) → Answer (List Item)
before i = map (λ is. i ∷ is)

abbrev pub item_at : ℕ → List ℕ → ℕ → ℕ → ℕ → Item
item_at at l t h n = record { start = at; place = at + h; piece = record { tag = t; value = take n (drop h l) } }

abbrev pub onward : (ℕ → List ℕ → Answer (List Item)) → ℕ → List ℕ → Step → Answer (List Item)
onward rest at l no_tag = refused 7 at 0
onward rest at l (no_length t) = refused 8 at t
onward rest at l (one t h n) = before (item_at at l t h n) (rest (at + (h + n)) (drop (h + n) l))

-- the items that fill the list l, which begins at a place; at most n of them
unfoldable pub walk : ℕ → ℕ → List ℕ → Answer (List Item)
walk zero at l = cond (ltb 0 (length l)) (refused 6 at 0) (given [])
walk (suc n) at l = cond (ltb 0 (length l)) (onward (λ a r. walk n a r) at l (read_item l)) (given [])
