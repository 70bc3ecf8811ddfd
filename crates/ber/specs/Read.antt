-- Document 01, Packet: what reading a tag or a length finds at the start of a list of bytes.
use Rattle.std.specs.Prelude.{ℕ, ◌+◌, ◌-◌, ◌*◌, cond, List, [], ◌∷◌, length, take, ltb, leb}
use Rattle.number.specs.Stored.{value_of}

-- a number and how many bytes it took, or no form that may stand there
pub data Read : Type 0 where
  got : (value size : ℕ) → Read
  broken : Read

-- "A tag has 7 bits a byte, highest first, the top bit saying that another follows; at most 3 bytes;
-- it may not begin with 0x80 and may not be 0." `high` is what the bytes before say.
unfoldable pub tag_third : ℕ → List ℕ → Read
tag_third high [] = broken
tag_third high (c ∷ l) = cond (ltb c 128) (got (high * 128 + c) 3) broken

unfoldable pub tag_second : ℕ → List ℕ → Read
tag_second high [] = broken
tag_second high (b ∷ l) = cond (ltb b 128) (got (high * 128 + b) 2) (tag_third (high * 128 + (b - 128)) l)

unfoldable pub read_tag : List ℕ → Read
read_tag [] = broken
read_tag (a ∷ l) = cond (ltb a 128) (cond (ltb 0 a) (got a 1) broken) (cond (leb a 128) broken (tag_second (a - 128) l))

-- "below 128 in one byte, or a byte 0x81 to 0x84 followed by 1 to 4 bytes, highest first. 0x80 and 0x85 to 0xFF are refused."
unfoldable pub read_length : List ℕ → Read
read_length [] = broken
read_length (a ∷ l) =
    cond (ltb a 128) (got a 1)
    (cond (leb a 128) broken
    (cond (ltb 132 a) broken
    (cond (ltb (length l) (a - 128)) broken (got (value_of (take (a - 128) l)) (a - 128 + 1)))))
