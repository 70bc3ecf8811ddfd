-- The unit as the code finds it: by three sets of tags, and by the tags that are alone with theirs.
use Rattle.std.specs.Prelude.{ℕ, cond, eqb}
use Rattle.tagset.specs.Sets.{holds, knowing}
use Rattle.tagset.specs.declared.TagSet.{TagSet}
use Rattle.catalogue.specs.declared.Unit.{Unit}
use Rattle.catalogue.specs.declared.Unit.TheVariants.{None, Degree, Metre, MetrePerSecond, Millibar, Percent, Celsius, Microsecond}

abbrev pub degree_tags : TagSet
degree_tags = knowing 51499720928 268173465

abbrev pub metre_tags : TagSet
metre_tags = knowing 144115462993641472 3848290715648

abbrev pub speed_tags : TagSet
speed_tags = knowing 72057662757405440 98304

unfoldable pub lone_unit : ℕ → Unit
lone_unit t =
    cond (eqb t 2) Microsecond
    (cond (eqb t 37) Millibar
    (cond (eqb t 39) Celsius
    (cond (eqb t 55) Percent None)))

abbrev pub unit_by_sets : ℕ → Unit
unit_by_sets t =
    cond (holds degree_tags t) Degree
    (cond (holds metre_tags t) Metre
    (cond (holds speed_tags t) MetrePerSecond (lone_unit t)))
