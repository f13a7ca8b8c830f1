-- The look over the rows of the work table for one that contains an outcome.
use Rattle.std.specs.Prelude.{Bool, List, [], ℕ, ◌+◌, ◌*◌, ◌<◌, ◌≤◌, length, get_or}
use Rattle.common.specs.Choice.{if_lt}
use Rattle.common.specs.Part.{part}
use Rattle.meaning.specs.Systems.{put}
use Rattle.rows.specs.Rows.{Row}
use Rattle.rows.specs.Look as look
use Rattle.work.specs.Layout.{count_place, atoms_place}

-- The atoms of channel c of row i, as the words tell.
unfoldable pub product_at : List ℕ → ℕ → ℕ → List ℕ
product_at w i c = if_lt c 4 (part (atoms_place i c) (atoms_place i c + get_or w (count_place i c) 0) w) []

-- Row i, as the words tell.
abbrev pub row_at : List ℕ → ℕ → Row
row_at w i = record { state = get_or w (103 * i) 0; products = product_at w i }

-- k rows, from row i on.
abbrev pub rows_at : List ℕ → ℕ → ℕ → List Row
rows_at w = look.rows_from (row_at w)

-- The outcome: in the target state, with the products of row i but for q at one channel. It is of parts, as the search's laws have them; that of crate
-- rows is of an outcome in memory.
abbrev pub outcome_row : List ℕ → ℕ → ℕ → ℕ → List ℕ → Row
outcome_row w target i channel q = record { state = target; products = put (row_at w i).products channel q }

-- Some row of the first `rows` contains it.
abbrev pub covered_in : ℕ → List ℕ → ℕ → Row → Bool
covered_in n w = look.covered_in n (row_at w)

-- The words have room for that many rows, and no count in them is over 24.
pub record Sized (w : List ℕ) (rows : ℕ) : Type 0 where
  pub there : 103 * rows ≤ length w
  pub counts : (i c : ℕ) → i < rows → c < 4 → get_or w (count_place i c) 0 ≤ 24
