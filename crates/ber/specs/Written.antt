-- The bytes that a tag and a length are written as.
use Rattle.std.specs.Prelude.{ℕ, ◌+◌, ◌/◌, ◌%◌, ◌^◌, cond, List, [], ◌∷◌, ltb, eqb}
use Rattle.number.specs.Stored.{bytes_of}

-- the one form of a tag; none for 0 and above 2,097,151
unfoldable pub tag_bytes : ℕ → List ℕ
tag_bytes t =
    cond (eqb t 0) []
    (cond (ltb t 128) (t ∷ [])
    (cond (ltb t 16384) ((128 + t / 128) ∷ (t % 128) ∷ [])
    (cond (ltb t 2097152) ((128 + t / 16384) ∷ (128 + t / 128 % 128) ∷ (t % 128) ∷ [])
    [])))

-- a length in n bytes after the first
abbrev pub long : ℕ → ℕ → List ℕ
long n x = (128 + n) ∷ bytes_of n x

-- the shortest form of a length; none from 2 ^ 32 on
unfoldable pub length_bytes : ℕ → List ℕ
length_bytes x =
    cond (ltb x 128) (x ∷ [])
    (cond (ltb x (256 ^ 1)) (long 1 x)
    (cond (ltb x (256 ^ 2)) (long 2 x)
    (cond (ltb x (256 ^ 3)) (long 3 x)
    (cond (ltb x (256 ^ 4)) (long 4 x)
    []))))
