-- The shadow of the code, not to be believed but proved to be what document 01's definitions give: what a walk comes to.
use Rattle.std.specs.Prelude.{ℕ, ◌-◌, ◌≤◌, ◌≡◌, Bool, true, not, cond, ◌&&◌, List, [], eqb, ltb, length, take, drop, get_or, Result}
use Rattle.refusal.specs.Answer.{Answer, given, refused, map, then, or_else, answer_said}
use Rattle.number.specs.Stored.{value_of}
use Rattle.checksum.specs.Sum.{checksum_of}
use Rattle.tagset.specs.Sets.{no_tags, holds, size}
use Rattle.tagset.specs.declared.TagSet.{TagSet}
use Rattle.knowing.specs.Good.{good}
use Rattle.catalogue.specs.Shapes.{code_allowed}
use Rattle.packet.specs.Pieces.{Item, walk}
use Rattle.packet.specs.Ends.{right_ends}
use Rattle.packet.specs.Structure.{frame, right_sum, closed}
use Rattle.packet.specs.Verdict.{judged, body_of, no_places, places_from}
use Rattle.packet.specs.Said.{header_at}
use Rattle.packet.specs.code.Passing.{Kept, fresh_at, kept_from}
use Rattle.packet.specs.declared.Accepted.{Accepted}
use Rattle.packet.specs.declared.Ends.{Ends}
use Rattle.packet.specs.declared.Header.{Header}
use Rattle.refusal.specs.declared.Refusal.{Refusal}

-- where the items begin, for a good knowing set
abbrev pub begun_by : TagSet → List ℕ → Answer ℕ
begun_by K p = cond (good K) (frame p) (refused 1 0 0)

-- the header at a place; where there is none, one with nothing in it
abbrev pub no_header : Header
no_header = record { tag = 0; start = 0; place = 0; size = 0 }

abbrev pub header_in : List ℕ → ℕ → Header
header_in p at = or_else no_header (λ h. h) (header_at p at)

-- first and last, by where the items begin and by the last header
abbrev pub ends_by : List ℕ → ℕ → Header → Ends
ends_by p from z = record { start = from; first = (header_in p from).tag; end = z.start; last = z.tag; size = z.size }

abbrev pub summed_at : List ℕ → ℕ → Bool
summed_at p place = eqb (value_of (take 2 (drop place p))) (checksum_of (take place p))

unfoldable pub closed_by : List ℕ → ℕ → Header → Answer (Unit {0})
closed_by p from z = then (right_ends (ends_by p from z)) (λ _. right_sum p z.place (take z.size (drop z.place p)))

-- the items from a place on
pub record WalksFrom (p : List ℕ) (from : ℕ) : Type 0 where
  pub items : List Item
  pub walked : walk 128 from (drop from p) ≡ given items

abbrev pub items_at : List ℕ → ℕ → List Item
items_at p from = or_else [] (λ is. is) (walk 128 from (drop from p))

-- whether something is given
abbrev pub bare : Answer (List Item) → Answer (Unit {0})
bare = map (λ _. tt)

-- first, last and sum and then the receiver's judgement; and the judgement alone
abbrev pub right_from : TagSet → List ℕ → ℕ → Answer (Unit {0})
right_from K p from = bare (then (closed p (items_at p from)) (judged (holds K)))

abbrev pub judged_from : TagSet → List ℕ → ℕ → Answer (Unit {0})
judged_from K p from = bare (judged (holds K) (items_at p from))

-- an item of one byte has no value, is not known, or has one of its codes
abbrev pub coded_in : TagSet → List ℕ → List ℕ → ℕ → Bool
coded_in K p places t = cond (ltb 0 (get_or places t 0)) (cond (holds K t) (code_allowed t 1 (get_or p (get_or places t 0 - 1) 0)) true) true

-- a value was found for a tag
abbrev pub found_in : List ℕ → ℕ → Bool
found_in places t = not (eqb (get_or places t 0) 0)

-- and for what a packet needs
abbrev pub whole_in : List ℕ → Bool
whole_in places = found_in places 1 && (found_in places 2 && found_in places 65)

-- as many tags noted as known items passed: each is fit and stands once
unfoldable pub clean_in : TagSet → List ℕ → List ℕ → TagSet → ℕ → Bool
clean_in K p places present known = eqb (size present) known && (whole_in places && (coded_in K p places 34 && coded_in K p places 63))

-- all places lie in a packet of so many bytes
pub record PlacesIn (bytes : ℕ) (places : List ℕ) : Type 0 where
  pub inside : (t : ℕ) → get_or places t 0 ≤ bytes

-- a walk that has come to the packet's end
pub record Whole (K : TagSet) (p : List ℕ) (from : ℕ) (k : Kept) : Type 0 where
  pub known : good K ≡ true
  pub inside : from ≤ length p
  pub items : List Item
  pub walked : walk 128 from (drop from p) ≡ given items
  pub keeps : kept_from K (fresh_at from no_places no_tags no_tags) items ≡ k

-- a packet of a right frame, whose items begin at a place; nothing is kept of them yet
pub record Begins (K : TagSet) (p : List ℕ) (from : ℕ) (places : List ℕ) : Type 0 where
  pub known : good K ≡ true
  pub some : 2 ≤ length p
  pub short : length p ≤ 8192
  pub inside : from ≤ length p
  pub none : places ≡ no_places

-- the answer by the items, and where their values are found if they are accepted
pub record ChecksFrom (K : TagSet) (p : List ℕ) (from : ℕ) (r : Result Accepted Refusal) (found : List ℕ) : Type 0 where
  pub says : answer_said r ≡ map (body_of (holds K)) (then (walk 128 from (drop from p)) (λ is. then (closed p is) (judged (holds K))))
  pub places : (a : Accepted) → answer_said r ≡ given a → found ≡ places_from no_places (items_at p from)
