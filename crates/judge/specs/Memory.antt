-- The rows that memory holds.
use Rattle.std.specs.Prelude.{List, ℕ, length}
use Rattle.rows.specs.Rows.{Row}
use Rattle.judge.specs.Look.{product_at, row_at, rows_at}
use Rattle.judge.specs.declared.memory.Products.{Products}
use Rattle.judge.specs.declared.memory.Rows.{Rows}

-- The atoms of channel c of row i.
abbrev pub product_in : Products → ℕ → ℕ → List ℕ
product_in p i c = product_at p.channels p.starts.now p.atoms.now i c

-- Row i.
abbrev pub row_in : Rows → ℕ → Row
row_in m i = row_at m.products.channels m.states.now m.products.starts.now m.products.atoms.now i

-- All rows.
abbrev pub rows_in : Rows → List Row
rows_in m = rows_at m.products.channels m.states.now m.products.starts.now m.products.atoms.now (length m.states.now) 0
