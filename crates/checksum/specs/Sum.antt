-- Document 01, Packet: "Bytes at even places (from 0) count 256 times, odd ones once; the sixteen-bit running sum drops its carries."
use Rattle.std.specs.Prelude.{ℕ, suc, ◌+◌, ◌*◌, ◌%◌, cond, List, [], ◌∷◌, ◌==◌}

-- how often the byte at a place counts
abbrev pub weight : ℕ → ℕ
weight place = cond (place % 2 == 0) 256 1

-- the sum with its carries, of bytes of which the first stands at a place
unfoldable pub weighed : ℕ → List ℕ → ℕ
weighed place [] = 0
weighed place (a ∷ l) = weight place * a + weighed (suc place) l

abbrev pub checksum_of : List ℕ → ℕ
checksum_of l = weighed 0 l % 65536
