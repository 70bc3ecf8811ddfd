-- Bytes put at a place of a list: all of them where there is room, else nothing.
use Rattle.std.specs.Prelude.{ℕ, ◌+◌, ◌≤◌, ◌≡◌, Bool, cond, List, ◌++◌, leb, length, take, drop}

abbrev pub room : List ℕ → ℕ → List ℕ → Bool
room o at bs = leb (at + length bs) (length o)

unfoldable pub put_into : List ℕ → ℕ → List ℕ → List ℕ
put_into o at bs = cond (room o at bs) (take at o ++ (bs ++ drop (at + length bs) o)) o

unfoldable pub put_count : List ℕ → ℕ → List ℕ → ℕ
put_count o at bs = cond (room o at bs) (length bs) 0

-- bs are put at a place of o: how many bytes, and what o is then
pub record Puts (o : List ℕ) (at : ℕ) (bs : List ℕ) (count : ℕ) (o' : List ℕ) : Type 0 where
  pub counted : count ≡ put_count o at bs
  pub after : o' ≡ put_into o at bs

-- bs fit at a place of o
pub record Room (o : List ℕ) (at : ℕ) (bs : List ℕ) : Type 0 where
  pub fits : at + length bs ≤ length o

-- bs are put where they fit: the place after them, and what o is then
pub record Wrote (o : List ℕ) (at : ℕ) (bs : List ℕ) (next : ℕ) (o' : List ℕ) : Type 0 where
  pub after : next ≡ at + length bs
  pub inside : next ≤ length o
  pub output : o' ≡ put_into o at bs
