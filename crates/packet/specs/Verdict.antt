-- What a receiver answers of a packet: the items, or the first refusal in document 01's order.
use Rattle.std.specs.Prelude.{ℕ, zero, suc, ◌+◌, cond, List, [], ◌∷◌, ltb, eqb, length, set, replicate}
use Rattle.refusal.specs.Answer.{Answer, given, refused, map, then}
use Rattle.tagset.specs.Sets.{holds}
use Rattle.tagset.specs.declared.TagSet.{TagSet}
use Rattle.knowing.specs.Good.{good}
use Rattle.catalogue.specs.Extended.{is_extended}
use Rattle.rows.specs.Present.{present_in, withdrawn_in}
use Rattle.packet.specs.declared.Accepted.{Accepted}
use Rattle.packet.specs.declared.Located.{Located}
use Rattle.packet.specs.Pieces.{Item, pieces}
use Rattle.packet.specs.Structure.{structure}
use Rattle.packet.specs.Encode.{longer_of}
use Rattle.packet.specs.Seen.{rows_of}
use Rattle.packet.specs.Judge.{Knowing, Judged, fine, faulty, no_version, judge}

-- where the item at an index starts
abbrev pub start_of : ℕ → List Item → ℕ
start_of k [] = 0
start_of zero (i ∷ is) = i.start
start_of (suc k) (i ∷ is) = start_of k is

abbrev pub placed : List Item → Judged → Answer (List Item)
placed is fine = given is
placed is (faulty k n t) = refused n (start_of k is) t
placed is no_version = refused 15 0 0

abbrev pub judged : Knowing → List Item → Answer (List Item)
judged K is = placed is (judge K (pieces is))

unfoldable pub verdict : Knowing → List ℕ → Answer (List Item)
verdict K p = then (structure p) (judged K)

-- the verdict of a receiver that is lent no table
unfoldable pub received : TagSet → List ℕ → Answer (List Item)
received K p = cond (good K) (verdict (holds K) p) (refused 1 0 0)

-- where the items begin, how many there are, by how many bytes their lengths are longer than in their shortest forms, and of the rows that the
-- receiver would make of them W-201's two words and those of the withdrawn ones
abbrev pub body_of : Knowing → List Item → Accepted
body_of K is =
    let rs = rows_of K is in
    record { from = start_of 0 is; count = length is; longer = longer_of is; present = present_in rs; withdrawn = withdrawn_in rs }

unfoldable pub checked : TagSet → List ℕ → Answer Accepted
checked K p = map (body_of (holds K)) (received K p)

-- where a value is found: by the place past it, since its tag tells its length; an extended height, whose tag does not (W-202), by its own place,
-- before which its length stands; an item of no bytes (W-204) has none to be found
abbrev pub found_at : ℕ → ℕ → ℕ → ℕ
found_at t place size = cond (eqb size 0) 0 (cond (is_extended t) place (place + size))

-- for each tag below 128 where its last item's value is found, 0 where there is none; and at 0 that of the tags from 128 on
abbrev pub one_byte : ℕ → ℕ
one_byte x = cond (ltb x 128) x 0

unfoldable pub places_from : List ℕ → List Item → List ℕ
places_from l [] = l
places_from l (i ∷ is) = places_from (set l (one_byte i.piece.tag) (found_at i.piece.tag i.place (length i.piece.value))) is

abbrev pub no_places : List ℕ
no_places = replicate 128 0

-- the same as `checked`, with where the values are found
abbrev pub located_of : Knowing → List Item → Located
located_of K is = record { accepted = body_of K is; places = places_from no_places is }

unfoldable pub located : TagSet → List ℕ → Answer Located
located K p = map (located_of (holds K)) (received K p)
