-- Lent memory whose first places are written.
use Rattle.std.specs.Prelude.{List, ◌++◌, ℕ, length, drop}

-- l with xs in its first places, all later places as they were.
unfoldable pub front : List ℕ → List ℕ → List ℕ
front xs l = xs ++ drop (length xs) l
