-- Numbers in decimal and bytes in hexadecimal, as ASCII text.
use Rattle.std.specs.Prelude.{ℕ, zero, suc, ◌+◌, ◌/◌, ◌%◌, cond, List, [], ◌∷◌, ltb, ℤ, pos, negsuc}
use Rattle.base.specs.Digits.{digits_in}

-- the k lowest digits of n, the highest first
unfoldable pub digits : ℕ → ℕ → List ℕ
digits k n = digits_in 10 (λ d. 48 + d) k n

-- how many digits n has; at most so many more than one
unfoldable pub count_from : ℕ → ℕ → ℕ
count_from zero n = 1
count_from (suc more) n = cond (ltb n 10) 1 (suc (count_from more (n / 10)))

-- a number of 64 bits has at most 20 digits
unfoldable pub decimal : ℕ → List ℕ
decimal n = digits (count_from 19 n) n

-- "with a minus sign where negative"
unfoldable pub whole : ℤ → List ℕ
whole (pos n) = decimal n
whole (negsuc n) = 45 ∷ decimal (suc n)

-- "upper-case hex"
abbrev pub hex_digit : ℕ → ℕ
hex_digit d = cond (ltb d 10) (48 + d) (55 + d)

unfoldable pub hex : List ℕ → List ℕ
hex [] = []
hex (b ∷ l) = hex_digit (b / 16) ∷ hex_digit (b % 16) ∷ hex l
