-- Document 01, Catalogue: the items, in the document's own groups.
use Rattle.std.specs.Prelude.{ℕ, ◌*◌, Bool, false, cond, ◌||◌, List, [], ◌∷◌, eqb, ℤ, pos, neg_ℤ, Option, Some}
use Rattle.catalogue.specs.declared.Sign.{Sign}
use Rattle.catalogue.specs.declared.Sign.TheVariants.{Unsigned, Signed, Marked}
use Rattle.catalogue.specs.declared.Unit.{Unit}
use Rattle.catalogue.specs.declared.Unit.TheVariants.{None, Degree, Metre, MetrePerSecond, Millibar, Percent, Celsius, Microsecond}
use Rattle.catalogue.specs.declared.Item.{Item}

-- items that are stored alike: so many bytes (0 where that is not fixed), with or without sign, from low to high in house units of the unit
pub record Group : Type 0 where
  pub unit : Unit
  pub tags : List ℕ
  pub width : ℕ
  pub sign : Sign
  pub low : ℤ
  pub high : ℤ

-- house units: 10^-7 degree; thousandths of a metre, of a metre a second, of a mbar, of a percent and of a degree C
abbrev pub degrees : ℕ → ℕ
degrees n = n * 10000000

abbrev pub thousandths : ℕ → ℕ
thousandths n = n * 1000

-- unsigned, from low to high
abbrev u : Unit → List ℕ → ℕ → ℤ → ℕ → Group
u unit tags width low high = record { unit = unit; tags = tags; width = width; sign = Unsigned; low = low; high = pos high }

-- signed, from -high to high, the lowest code a mark
abbrev i : Unit → List ℕ → ℕ → ℕ → Group
i unit tags width high = record { unit = unit; tags = tags; width = width; sign = Marked; low = neg_ℤ (pos high); high = pos high }

-- without scale
abbrev plain : Unit → List ℕ → ℕ → Group
plain unit tags width = u unit tags width (pos 0) 0

-- W-202: "items 103, 104 and 105 by MISB ST 1201 IMAPB, -900 to 40,000 m"; without a width of its own, since "lengths 2, 3 and 4" are accepted
abbrev extended : List ℕ → Group
extended tags = u Metre tags 0 (neg_ℤ (pos (thousandths 900))) (thousandths 40000)

-- any bytes
abbrev text : List ℕ → Group
text tags = plain None tags 0

unfoldable pub groups : List Group
groups =
    u Degree (5 ∷ 35 ∷ 64 ∷ 71 ∷ []) 2 (pos 0) (degrees 360)
    ∷ i Degree (6 ∷ []) 2 (degrees 20)
    ∷ i Degree (7 ∷ []) 2 (degrees 50)
    ∷ u MetrePerSecond (8 ∷ 9 ∷ 56 ∷ []) 1 (pos 0) (thousandths 255)
    ∷ i Degree (13 ∷ 23 ∷ 67 ∷ 82 ∷ 84 ∷ 86 ∷ 88 ∷ 90 ∷ 91 ∷ []) 4 (degrees 90)
    ∷ i Degree (14 ∷ 19 ∷ 24 ∷ 68 ∷ 83 ∷ 85 ∷ 87 ∷ 89 ∷ []) 4 (degrees 180)
    ∷ u Metre (15 ∷ 25 ∷ 38 ∷ 75 ∷ 78 ∷ []) 2 (neg_ℤ (pos (thousandths 900))) (thousandths 19000)
    ∷ u Degree (16 ∷ 17 ∷ []) 2 (pos 0) (degrees 180)
    ∷ u Degree (18 ∷ 20 ∷ []) 4 (pos 0) (degrees 360)
    ∷ u Metre (21 ∷ 57 ∷ []) 4 (pos 0) (thousandths 5000000)
    ∷ u Metre (22 ∷ []) 2 (pos 0) (thousandths 10000)
    -- 0.075 degrees
    ∷ i Degree (26 ∷ 27 ∷ 28 ∷ 29 ∷ 30 ∷ 31 ∷ 32 ∷ 33 ∷ []) 2 750000
    ∷ u MetrePerSecond (36 ∷ []) 1 (pos 0) (thousandths 100)
    ∷ u Percent (55 ∷ []) 1 (pos 0) (thousandths 100)
    ∷ u Millibar (37 ∷ []) 2 (pos 0) (thousandths 5000)
    -- one degree C a code, no mark
    ∷ record { unit = Celsius; tags = 39 ∷ []; width = 1; sign = Signed; low = neg_ℤ (pos (thousandths 128)); high = pos (thousandths 127) }
    ∷ i MetrePerSecond (79 ∷ 80 ∷ []) 2 (thousandths 327)
    ∷ plain None (1 ∷ []) 2
    ∷ plain Microsecond (2 ∷ []) 8
    ∷ plain None (65 ∷ 34 ∷ 63 ∷ []) 1
    ∷ extended (103 ∷ 104 ∷ 105 ∷ [])
    ∷ text (3 ∷ 4 ∷ 10 ∷ 11 ∷ 12 ∷ 59 ∷ 70 ∷ [])
    ∷ []

unfoldable pub member : ℕ → List ℕ → Bool
member t [] = false
member t (x ∷ xs) = eqb t x || member t xs

-- what is said of the group that has a tag, and where there is none
abbrev pub in_groups : {A : Type 0} → A → (Group → A) → List Group → ℕ → A
in_groups none say [] t = none
in_groups none say (g ∷ gs) t = cond (member t g.tags) (say g) (in_groups none say gs t)

unfoldable pub item_in : List Group → ℕ → Option Item
item_in gs t = in_groups Option.None (λ g. Some (record { tag = t; width = g.width; sign = g.sign; low = g.low; high = g.high })) gs t

-- what the catalogue has for a tag
unfoldable pub item_of : ℕ → Option Item
item_of t = item_in groups t

-- what a tag's values count; nothing where the catalogue has no such tag
unfoldable pub unit_of : ℕ → Unit
unit_of t = in_groups None (λ g. g.unit) groups t
