-- Document 01, Rows: "a walker that keeps the packet and its place and hands back each value as a part of the packet". What each step
-- finds, for every packet and every place, also where no walker was started there.
use Rattle.std.specs.Prelude.{ℕ, zero, suc, ◌+◌, ◌%◌, ◌^◌, List, [], length, take, drop, Option, Some, None}
use Rattle.refusal.specs.Answer.{Answer, map, or_else}
use Rattle.number.specs.Stored.{value_of}
use Rattle.tagset.specs.Sets.{holds}
use Rattle.tagset.specs.declared.TagSet.{TagSet}
use Rattle.catalogue.specs.declared.Shape.{Shape}
use Rattle.rows.specs.Meaning.{Meaning, shape_for, seen_as, kind_of, code_of, said_by}
use Rattle.rows.specs.Taken.{content_of}
use Rattle.rows.specs.declared.Part.{Part}
use Rattle.rows.specs.declared.Row.{Row}
use Rattle.packet.specs.Said.{header_at}
use Rattle.packet.specs.Verdict.{checked}
use Rattle.packet.specs.declared.Header.{Header}
use Rattle.packet.specs.declared.Accepted.{Accepted}
use Rattle.walker.specs.declared.Standing.{Standing}

abbrev pub header_value : List ℕ → Header → List ℕ
header_value p h = take h.size (drop h.place p)

abbrev pub header_part : Header → Part
header_part h = record { place = h.place; length = h.size }

-- what a receiver sees in the item with a header: of more than eight bytes of a number the last eight count
abbrev pub meaning_in : TagSet → List ℕ → Header → Meaning Part
meaning_in K p h = seen_as (shape_for (holds K) h.tag) (value_of (header_value p h) % 2 ^ 64) h.size (header_part h)

-- the item where it stands: "tag; kind ...; the stored code ...", and its value's place and length
unfoldable pub seen_in : TagSet → List ℕ → Header → Standing
seen_in K p h =
    record {
      tag = h.tag;
      kind = kind_of (meaning_in K p h);
      code = code_of (meaning_in K p h);
      place = h.place;
      length = h.size;
      next = h.place + h.size;
    }

-- the code by the shape, the value as a number and its length
abbrev pub code_for : Shape → ℕ → ℕ → ℕ
code_for shape code size = code_of (seen_as {A = Unit {0}} shape code size tt)

-- "its tag beside one of four kinds of content", five since W-204
unfoldable pub row_seen : Standing → Row
row_seen s = record { tag = s.tag; content = content_of (said_by s.kind s.code s.length (record { place = s.place; length = s.length })) }

-- the item at a place, where it stands and as a row; its value, and the place after it; where there is none, no bytes and the same place
abbrev pub seen_by : TagSet → List ℕ → Answer Header → Option Standing
seen_by K p = or_else None (λ h. Some (seen_in K p h))

abbrev pub found_seen : Option Standing → Option Row
found_seen (Some s) = Some (row_seen s)
found_seen None = None

abbrev pub part_by : List ℕ → Answer Header → List ℕ
part_by p = or_else [] (header_value p)

abbrev pub next_by : ℕ → Answer Header → ℕ
next_by at = or_else at (λ h. h.place + h.size)

unfoldable pub seen_at : TagSet → List ℕ → ℕ → Option Standing
seen_at K p at = seen_by K p (header_at p at)

unfoldable pub found_at : TagSet → List ℕ → ℕ → Option Row
found_at K p at = found_seen (seen_at K p at)

unfoldable pub part_at : List ℕ → ℕ → List ℕ
part_at p at = part_by p (header_at p at)

unfoldable pub next_at : List ℕ → ℕ → ℕ
next_at p at = next_by at (header_at p at)

-- "Starting the walker gives the reader's refusals but for 2": good or the refusal, and where the walk begins; after a refusal that is
-- the packet's end, where there are no more
abbrev pub begin_by : Answer Accepted → Answer (Unit {0})
begin_by = map (λ _. tt)

abbrev pub place_by : List ℕ → Answer Accepted → ℕ
place_by p = or_else (length p) (λ a. a.from)

unfoldable pub start_place : TagSet → List ℕ → ℕ
start_place K p = place_by p (checked K p)

-- where the item numbered i starts, walked to from the first
unfoldable pub place_number : TagSet → List ℕ → ℕ → ℕ
place_number K p zero = start_place K p
place_number K p (suc i) = next_at p (place_number K p i)
