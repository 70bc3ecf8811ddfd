-- The tags that heights and corners look at, each stored as the one whose scale the code has as a constant.
-- Assumes nothing.
use Prim.Native.Nat.{ℕ, zero, suc, ◌+◌, ◌*◌, ◌<◌}
use native.Mathlib.Omega.{arith}
use mathlib.Core.Path.{◌≡◌, refl}
use mathlib.Core.Bool.{true}
use mathlib.Core.List.{[]}
use lib.IntN.{pos, neg_ℤ}
use Rattle.catalogue.specs.Items.{Group, groups, member, item_in, item_of}
use Rattle.catalogue.specs.declared.Sign.TheVariants.{Unsigned, Marked}
use Rattle.catalogue.specs.declared.Unit.TheVariants.{Degree, Metre}
use Rattle.scale.specs.Scales.{scaled}
use Rattle.ground.specs.code.Located.{item_with, Like}
use Rattle.std.specs.Prelude.{Some}

-- the groups, by their scales alone
abbrev height : Group
height = record { unit = Metre; tags = []; width = 2; sign = Unsigned; low = neg_ℤ (pos 900000); high = pos 19000000 }

abbrev signed : ℕ → ℕ → Group
signed width high = record { unit = Degree; tags = []; width = width; sign = Marked; low = neg_ℤ (pos high); high = pos high }

abbrev latitude : Group
latitude = signed 4 900000000

abbrev longitude : Group
longitude = signed 4 1800000000

abbrev offset : Group
offset = signed 2 750000

alike : (t u : ℕ) (g : Group) → item_of t ≡ Some (item_with t g) → item_of u ≡ Some (item_with u g) → scaled (item_with t g) ≡ true → Like t u g.width
alike t u g e f s = record { group = g; one = e; other = f; wide = refl; scale = s }

-- one of four
by_four : (P : ℕ → Type 0) → P 1 → P 2 → P 3 → P 4 → (k : ℕ) → 0 < k → k < 5 → P k
by_four P a b c d zero some few = absurd (omega arith)
by_four P a b c d (suc zero) some few = a
by_four P a b c d (suc (suc zero)) some few = b
by_four P a b c d (suc (suc (suc zero))) some few = c
by_four P a b c d (suc (suc (suc (suc zero)))) some few = d
by_four P a b c d (suc (suc (suc (suc (suc n))))) some few = absurd (omega arith)

pub like_15 : Like 15 15 2
unfolding item_of item_in member groups
like_15 = alike 15 15 height refl refl refl

pub like_25 : Like 25 15 2
unfolding item_of item_in member groups
like_25 = alike 25 15 height refl refl refl

pub like_75 : Like 75 15 2
unfolding item_of item_in member groups
like_75 = alike 75 15 height refl refl refl

pub like_78 : Like 78 15 2
unfolding item_of item_in member groups
like_78 = alike 78 15 height refl refl refl

pub like_23 : Like 23 23 4
unfolding item_of item_in member groups
like_23 = alike 23 23 latitude refl refl refl

pub like_24 : Like 24 24 4
unfolding item_of item_in member groups
like_24 = alike 24 24 longitude refl refl refl

pub like_latitude : (k : ℕ) → 0 < k → k < 5 → Like (80 + 2 * k) 23 4
unfolding item_of item_in member groups
like_latitude =
    by_four (λ k. Like (80 + 2 * k) 23 4)
    (alike 82 23 latitude refl refl refl)
    (alike 84 23 latitude refl refl refl)
    (alike 86 23 latitude refl refl refl)
    (alike 88 23 latitude refl refl refl)

pub like_longitude : (k : ℕ) → 0 < k → k < 5 → Like (81 + 2 * k) 24 4
unfolding item_of item_in member groups
like_longitude =
    by_four (λ k. Like (81 + 2 * k) 24 4)
    (alike 83 24 longitude refl refl refl)
    (alike 85 24 longitude refl refl refl)
    (alike 87 24 longitude refl refl refl)
    (alike 89 24 longitude refl refl refl)

pub like_north : (k : ℕ) → 0 < k → k < 5 → Like (24 + 2 * k) 26 2
unfolding item_of item_in member groups
like_north =
    by_four (λ k. Like (24 + 2 * k) 26 2)
    (alike 26 26 offset refl refl refl)
    (alike 28 26 offset refl refl refl)
    (alike 30 26 offset refl refl refl)
    (alike 32 26 offset refl refl refl)

pub like_east : (k : ℕ) → 0 < k → k < 5 → Like (25 + 2 * k) 26 2
unfolding item_of item_in member groups
like_east =
    by_four (λ k. Like (25 + 2 * k) 26 2)
    (alike 27 26 offset refl refl refl)
    (alike 29 26 offset refl refl refl)
    (alike 31 26 offset refl refl refl)
    (alike 33 26 offset refl refl refl)
