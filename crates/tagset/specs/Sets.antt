-- Document 01, The knowing set: "two 64-bit words, tag t being bit t of the pair. The first word is bits 0 to 63."
use Rattle.std.specs.Prelude.{ℕ, zero, suc, ◌+◌, ◌-◌, ◌*◌, ◌/◌, ◌%◌, ◌^◌, Bool, cond, not, ◌&&◌, ◌||◌, ltb, eqb}
use Rattle.std.specs.Int.Bits.{bit_and, bit_or}
use Rattle.base.specs.Every.{all_below}
use Rattle.tagset.specs.declared.TagSet.{TagSet}

-- the set of two words
abbrev pub knowing : ℕ → ℕ → TagSet
knowing low high = record { low = low; high = high }

-- no tag
abbrev pub no_tags : TagSet
no_tags = knowing 0 0

-- the two words as one number
abbrev pub pair : TagSet → ℕ
pair s = s.high * 2 ^ 64 + s.low

unfoldable pub holds : TagSet → ℕ → Bool
holds s t = eqb (pair s / 2 ^ t % 2) 1

-- every tag that s holds, of holds too; no set holds a tag from 128 on
unfoldable pub within : TagSet → TagSet → Bool
within s of = all_below (λ t. not (holds s t) || holds of t) 128

-- how many tags below a tag it holds
unfoldable pub count_below : TagSet → ℕ → ℕ
count_below s zero = 0
count_below s (suc t) = cond (holds s t) 1 0 + count_below s t

-- how many tags it holds: the set bits of the pair
unfoldable pub size : TagSet → ℕ
size s = count_below s 128

-- the tags that both hold
unfoldable pub meet : TagSet → TagSet → TagSet
meet s of = record { low = bit_and s.low of.low; high = bit_and s.high of.high }

-- the same two words
unfoldable pub same : TagSet → TagSet → Bool
same s of = eqb s.low of.low && eqb s.high of.high

-- the set with a tag more
unfoldable pub with_tag : TagSet → ℕ → TagSet
with_tag s t =
    cond (ltb t 64) (record { low = bit_or s.low (2 ^ t); high = s.high })
    (cond (ltb t 128) (record { low = s.low; high = bit_or s.high (2 ^ (t - 64)) }) s)
