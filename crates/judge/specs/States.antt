-- Looks over the states of a list's rows.
use Rattle.std.specs.Prelude.{Bool, true, false, List, ℕ, zero, suc, ◌+◌, get_or, Option, Some, None}
use Rattle.std.proofs.Math.Option as math
use Rattle.common.specs.Choice.{if_eq, if_true}
use Rattle.table.specs.Systems.{bad_state}
use Rattle.table.specs.declared.checks.Shape.{Shape}

-- One of k rows from row i on is in that state.
unfoldable pub any_state : ℕ → List ℕ → ℕ → ℕ → Bool
any_state start states zero i = false
any_state start states (suc k) i = if_eq (get_or states i 0) start true (any_state start states k (i + 1))

-- The first of k rows from row i on whose state is bad.
unfoldable pub first_bad : List ℕ → Shape → List ℕ → ℕ → ℕ → Option ℕ
first_bad t s states zero i = None
first_bad t s states (suc k) i = if_true (bad_state t s (get_or states i 0)) (Some i) (first_bad t s states k (i + 1))

-- The row that an answer names.
abbrev pub place_in : Option ℕ → math.Option ℕ
place_in None = math.none
place_in (Some i) = math.some i
