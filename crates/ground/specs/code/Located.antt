-- The shadow of the code, not to be believed but proved to be what document 01's definitions give: the values of an accepted packet,
-- by the places at which they are found.
use Rattle.std.specs.Prelude.{ℕ, ◌^◌, ◌<◌, ◌≡◌, true, false, cond, List, [], get_or, eqb, Option, Some, None}
use Rattle.refusal.specs.Answer.{or_else}
use Rattle.number.specs.Stored.{Bytes}
use Rattle.tagset.specs.Sets.{holds}
use Rattle.tagset.specs.declared.TagSet.{TagSet}
use Rattle.catalogue.specs.Items.{Group, item_of}
use Rattle.catalogue.specs.declared.Item.{Item}
use Rattle.rows.specs.declared.RowWords.{RowWords}
use Rattle.packet.specs.Verdict.{received, places_from, no_places}
use Rattle.packet.specs.Rows.{rows_of}
use Rattle.scale.specs.Scales.{scaled}

-- an accepted packet, and for each tag where its value is found
pub record Placed (K : TagSet) (p found : List ℕ) : Type 0 where
  pub low64 : K.low < 2 ^ 64
  pub high64 : K.high < 2 ^ 64
  pub bytes : Bytes p
  pub accepted : or_else false (λ _. true) (received K p) ≡ true
  pub places : found ≡ or_else no_places (places_from no_places) (received K p)

-- its rows
abbrev pub rows_held : TagSet → List ℕ → List RowWords
rows_held K p = or_else [] (rows_of (holds K)) (received K p)

-- where the value of a known tag is found, 0 where there is none
abbrev pub place_in : TagSet → List ℕ → ℕ → ℕ
place_in K places t = cond (holds K t) (get_or places t 0) 0

abbrev pub place_found : TagSet → List ℕ → ℕ → Option ℕ
place_found K places t = cond (eqb (place_in K places t) 0) None (Some (place_in K places t))

-- the item of a tag in a group of items that are stored alike
abbrev pub item_with : ℕ → Group → Item
item_with t g = record { tag = t; width = g.width; sign = g.sign; low = g.low; high = g.high }

-- two tags of one group, which has a scale and so many bytes
pub record Like (t u width : ℕ) : Type 0 where
  pub group : Group
  pub one : item_of t ≡ Some (item_with t group)
  pub other : item_of u ≡ Some (item_with u group)
  pub wide : group.width ≡ width
  pub scale : scaled (item_with t group) ≡ true
