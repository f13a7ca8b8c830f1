-- The system that a good table means.
use Rattle.std.specs.Prelude.{◌≡◌, Bool, List, [], ℕ, Result, Ok, Err}
use Rattle.common.specs.First.{is_in}
use Rattle.meaning.specs.Systems.{System, Move}
use Rattle.reader.specs.Bytes.{number_at}
use Rattle.reader.specs.Records.{part_of}
use Rattle.table.specs.Checking.{bad_place, check_table}
use Rattle.table.specs.Transitions.{transition_at, move_of}
use Rattle.table.specs.Listing.{listed}
use Rattle.table.specs.declared.faults.Refusal.{Refusal}
use Rattle.table.specs.declared.checks.Shape.{Shape}

-- The table is good and has that shape.
abbrev pub GoodTable : List ℕ → Shape → Type 0
GoodTable t s = check_table t ≡ Ok s

-- Bad state i, at its fixed place.
unfoldable pub bad_at : List ℕ → Shape → ℕ → ℕ
bad_at t s i = number_at (part_of t (bad_place s.transitions i) 2) 0

-- The moves: what the transitions are, in file order.
abbrev pub moves_of : List ℕ → Shape → List Move
moves_of t s = listed (λ i. move_of (transition_at t i)) s.transitions 0

-- The bad states, in file order.
abbrev pub bads_of : List ℕ → Shape → List ℕ
bads_of t s = listed (bad_at t s) s.bads 0

-- Whether a state is bad: the search for it in the list of the bad states.
unfoldable pub bad_state : List ℕ → Shape → ℕ → Bool
bad_state t s x = is_in x (bads_of t s)

-- The system of a table with that shape.
abbrev pub system_with : List ℕ → Shape → System
system_with t s = record
    { states = s.states; channels = s.channels; messages = s.messages; start = s.start; moves = moves_of t s; bad = bads_of t s }

-- The system of an answer. A refused table has no system of its own: it stands for the one without states.
abbrev pub system_from : List ℕ → Result Shape Refusal → System
system_from t (Ok s) = system_with t s
system_from t (Err r) = record { states = 0; channels = 0; messages = 0; start = 0; moves = []; bad = [] }

-- The system that a table means.
unfoldable pub system_of : List ℕ → System
system_of t = system_from t (check_table t)
