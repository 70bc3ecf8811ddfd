-- A word in hexadecimal: 1 to 16 digits of either case, highest first.
use Rattle.std.specs.Prelude.{ℕ, ◌+◌, ◌-◌, ◌*◌, cond, Option, Some, None, List, [], ◌∷◌, length, ltb, leb, eqb}

-- what the byte of a digit stands for, 0 to 9, A to F and a to f; none of any other byte
unfoldable pub digit_of : ℕ → Option ℕ
digit_of x =
    cond (ltb x 48) None
    (cond (leb x 57) (Some (x - 48))
    (cond (ltb x 65) None
    (cond (leb x 70) (Some (x - 55))
    (cond (ltb x 97) None
    (cond (leb x 102) (Some (x - 87))
    None)))))

-- high is what the digits before say
unfoldable pub word_from : ℕ → List ℕ → Option ℕ
word_from high [] = Some high
word_from high (a ∷ l) = elim (digit_of a) [ Some d ↦ word_from (high * 16 + d) l | None ↦ None ]

unfoldable pub word_of : List ℕ → Option ℕ
word_of l = cond (eqb (length l) 0) None (cond (ltb 16 (length l)) None (word_from 0 l))
