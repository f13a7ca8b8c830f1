-- Rows of the work table, as its words tell.
use Rattle.std.specs.Prelude.{List, [], ℕ, ◌+◌, ◌*◌, ◌<◌, ◌≤◌, get_or}
use Rattle.common.specs.Choice.{if_lt}
use Rattle.rows.specs.Rows.{Row}
use Rattle.table.specs.Listing.{listed}
use Rattle.work.specs.Layout.{count_place, atoms_place}

-- Word number k from a place on.
unfoldable pub word_from : List ℕ → ℕ → ℕ → ℕ
word_from w from k = get_or w (from + k) 0

-- How many atoms channel c of row i has.
abbrev pub count_in : List ℕ → ℕ → ℕ → ℕ
count_in w i c = get_or w (count_place i c) 0

-- Its atoms: atom places past the count are not looked at.
unfoldable pub product_in : List ℕ → ℕ → ℕ → List ℕ
product_in w i c = listed (word_from w (atoms_place i c)) (count_in w i c) 0

-- Row i for n channels: channels past them are not looked at, nor are parent and transition.
unfoldable pub row_in : ℕ → List ℕ → ℕ → Row
row_in n w i = record { state = get_or w (103 * i) 0; products = λ c. if_lt c n (product_in w i c) [] }

-- The first rows.
abbrev pub rows_in : ℕ → List ℕ → ℕ → List Row
rows_in n w rows = listed (row_in n w) rows 0

-- The numbers of row i fit into their bytes.
pub record Writable (n : ℕ) (w : List ℕ) (i : ℕ) : Type 0 where
  pub state_fits : get_or w (103 * i) 0 < 65536
  pub counts_fit : (c : ℕ) → c < n → count_in w i c ≤ 24

-- So those of each of the first rows.
pub record AllWritable (n : ℕ) (w : List ℕ) (rows : ℕ) : Type 0 where
  pub each : (i : ℕ) → i < rows → Writable n w i
