-- The judge: no start; bad row; not closed; accepted. The first that holds.
use Rattle.std.specs.Prelude.{Bool, true, not, List, ℕ, eqb}
use Rattle.std.proofs.Math.Option.{Option, none, some}
use Rattle.common.specs.Choice.{if_true}
use Rattle.common.specs.First.{any_of, first_place, first_with, is_in}
use Rattle.meaning.specs.Systems.{System}
use Rattle.rows.specs.Rows.{Row, covers}
use Rattle.rows.specs.Outcomes.{outcome}

pub data Judgement : Type 0 where
  accepted : Judgement
  no_start : Judgement
  bad_row : ℕ → Judgement
  not_closed : ℕ → ℕ → Judgement

-- Some row is in the start state; every product has the empty word, so it holds the start.
abbrev pub has_start : ℕ → List Row → Bool
has_start s l = any_of (λ r. eqb r.state s) l

-- The lowest row whose state is bad.
abbrev pub lowest_bad : List ℕ → List Row → Option ℕ
lowest_bad bad l = first_place (λ r. is_in r.state bad) l 0

-- Some row of the list contains the outcome.
abbrev pub covered_by : ℕ → List Row → Row → Bool
covered_by n l o = any_of (λ s. covers n s o) l

-- The outcome is impossible or in one row of the list.
abbrev pub settled : ℕ → List Row → Option Row → Bool
settled n l none = true
settled n l (some o) = covered_by n l o

-- The lowest move whose outcome from the row is neither.
abbrev pub open_move : System → List Row → Row → Option ℕ
open_move S l r = first_place (λ t. not (settled S.channels l (outcome t r))) S.moves 0

-- The lowest row that has such a move, and its lowest such move.
abbrev pub open_row : System → List Row → Option (ℕ × ℕ)
open_row S l = first_with (open_move S l) l 0

-- The judge's answer.
unfoldable pub judge : System → List Row → Judgement
judge S l =
    if_true (has_start S.start l)
    (elim (lowest_bad S.bad l) [
      | none ↦ elim (open_row S l) [ none ↦ accepted | some p ↦ not_closed p.0 p.1 ]
      | some i ↦ bad_row i
    ])
    no_start
