-- Document 01, Catalogue: "nearest whole number", "nearest code".
use Rattle.std.specs.Prelude.{ℕ, ◌+◌, ◌*◌, ◌/◌}

-- the nearest whole number to p / q. A tie goes up: away from where p is counted from, the low end of unsigned items and zero of signed ones
unfoldable pub nearest : ℕ → ℕ → ℕ
nearest p q = (2 * p + q) / (2 * q)
