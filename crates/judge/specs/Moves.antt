-- The moves of rows where they stand in memory.
use Rattle.std.specs.Prelude.{Bool, List, ℕ, zero, suc, ◌+◌, Option, Some, None}
use Rattle.std.proofs.Math.Option as math
use Rattle.common.specs.Choice.{if_true}
use Rattle.meaning.specs.Systems.{Move}
use Rattle.rows.specs.Outcomes.{outcome}
use Rattle.table.specs.Transitions.{move_of, transition_at}
use Rattle.table.specs.declared.checks.Shape.{Shape}
use Rattle.judgement.specs.Judge.{settled}
use Rattle.judge.specs.Memory.{row_in, rows_in}
use Rattle.judge.specs.declared.memory.Rows.{Rows}
use Rattle.judge.specs.declared.moves.Open.{Open}

-- The outcome of a move from row i is impossible or inside one row.
unfoldable pub settled_at : Rows → ℕ → Move → Bool
settled_at m i u = settled m.products.channels (rows_in m) (outcome u (row_in m i))

-- The first of k transitions from transition j on whose outcome from row i is neither.
unfoldable pub first_open : List ℕ → Shape → Rows → ℕ → ℕ → ℕ → Option ℕ
first_open t s m i zero j = None
first_open t s m i (suc k) j = if_true (settled_at m i (move_of (transition_at t j))) (first_open t s m i k (j + 1)) (Some j)

-- The first of k rows from row i on that has such a transition, and its first.
unfoldable pub first_open_row : List ℕ → Shape → Rows → ℕ → ℕ → Option Open
first_open_row t s m zero i = None
first_open_row t s m (suc k) i =
    elim (first_open t s m i s.transitions 0) [
      | None ↦ first_open_row t s m k (i + 1)
      | Some j ↦ Some (record { row = i; transition = j })
    ]

-- The row and the transition that an answer names.
abbrev pub open_in : Option Open → math.Option (ℕ × ℕ)
open_in None = math.none
open_in (Some o) = math.some (o.row, o.transition)
