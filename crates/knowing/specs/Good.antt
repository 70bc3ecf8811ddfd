-- Document 01, The knowing set: "The set is good when it holds 1, 2 and 65 and nothing outside the catalogue."
use Rattle.std.specs.Prelude.{ℕ, Bool, true, false, not, ◌&&◌, ◌||◌, Option, Some, None}
use Rattle.base.specs.Every.{all_below}
use Rattle.tagset.specs.Sets.{holds}
use Rattle.tagset.specs.declared.TagSet.{TagSet}
use Rattle.catalogue.specs.Items.{item_of}
use Rattle.catalogue.specs.declared.Item.{Item}

abbrev pub is_known : Option Item → Bool
is_known (Some i) = true
is_known None = false

unfoldable pub in_catalogue : ℕ → Bool
in_catalogue t = is_known (item_of t)

-- no set holds a tag from 128 on
unfoldable pub good : TagSet → Bool
good s = holds s 1 && (holds s 2 && (holds s 65 && all_below (λ t. not (holds s t) || in_catalogue t) 128))
