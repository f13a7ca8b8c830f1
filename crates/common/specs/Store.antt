-- Lent memory in which the places of a range are written.
use Rattle.std.specs.Prelude.{List, ◌++◌, ℕ, ◌+◌, length, take, drop}

-- l with ys in the places from a on, all other places as they were.
unfoldable pub put_at : List ℕ → ℕ → List ℕ → List ℕ
put_at l a ys = take a l ++ ys ++ drop (a + length ys) l
