-- Rows as a list's memory tells them, for the look over them.
use Rattle.std.specs.Prelude.{List, [], ℕ, ◌+◌, ◌*◌, ◌<◌, ◌≤◌, length, get_or}
use Rattle.common.specs.Choice.{if_lt}
use Rattle.common.specs.Part.{part}
use Rattle.rows.specs.Look.{rows_from}
use Rattle.rows.specs.Rows.{Row}

-- Where the atoms of channel c of row i begin, and where they end.
unfoldable pub from_at : ℕ → List ℕ → ℕ → ℕ → ℕ
from_at n starts i c = get_or starts (i * n + c) 0

unfoldable pub to_at : ℕ → List ℕ → ℕ → ℕ → ℕ
to_at n starts i c = get_or starts (i * n + c + 1) 0

-- The atoms of channel c of row i; none past the n channels.
unfoldable pub product_at : ℕ → List ℕ → List ℕ → ℕ → ℕ → List ℕ
product_at n starts atoms i c = if_lt c n (part (from_at n starts i c) (to_at n starts i c) atoms) []

-- Row i.
abbrev pub row_at : ℕ → List ℕ → List ℕ → List ℕ → ℕ → Row
row_at n states starts atoms i = record { state = get_or states i 0; products = product_at n starts atoms i }

-- k rows, from row i on.
abbrev pub rows_at : ℕ → List ℕ → List ℕ → List ℕ → ℕ → ℕ → List Row
rows_at n states starts atoms k i = rows_from (row_at n states starts atoms) k i

-- A range of at most 24 places among the first k.
pub record Range (from to k : ℕ) : Type 0 where
  pub rises : from ≤ to
  pub inside : to ≤ k
  pub short : to ≤ from + 24

-- The memory has at least that many rows, each with n products of at most 24 atoms.
pub record Sized (n : ℕ) (starts atoms : List ℕ) (rows : ℕ) : Type 0 where
  pub few : rows ≤ 1024
  pub narrow : n ≤ 4
  pub there : (i c : ℕ) → i < rows → c < n → i * n + c + 1 < length starts
  pub ranges : (i c : ℕ) → i < rows → c < n → Range (from_at n starts i c) (to_at n starts i c) (length atoms)
