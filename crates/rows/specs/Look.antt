-- The look over rows for one that contains an outcome.
use Rattle.std.specs.Prelude.{Bool, List, [], ◌∷◌, ℕ, zero, suc, ◌+◌}
use Rattle.common.specs.First.{any_of}
use Rattle.meaning.specs.Systems.{put}
use Rattle.rows.specs.Rows.{Row, covers}
use Rattle.rows.specs.declared.look.Outcome.{Outcome}

-- k rows, from row i on.
unfoldable pub rows_from : (ℕ → Row) → ℕ → ℕ → List Row
rows_from row zero i = []
rows_from row (suc k) i = row i ∷ rows_from row k (i + 1)

-- The row that an outcome means: in the target state, with the products of one row but at one channel the product that is given.
abbrev pub outcome_row : (ℕ → Row) → Outcome → Row
outcome_row row o = record { state = o.target; products = put (row o.source_row).products o.channel o.product.now }

-- Some row of the first k contains it, by the first n channels.
unfoldable pub covered_in : ℕ → (ℕ → Row) → ℕ → Row → Bool
covered_in n row k o = any_of (λ s. covers n s o) (rows_from row k 0)
