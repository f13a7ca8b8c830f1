-- The search at a system: its rows and outcomes are those of the rules.
use Rattle.std.specs.Prelude.{Bool, true, false, List, ℕ, zero, suc, length}
use Rattle.std.proofs.Math.Option.{Option, none, some, map}
use Rattle.std.proofs.Math.ListN.{get_elem?}
use Rattle.common.specs.Choice.{if_lt}
use Rattle.common.specs.First.{is_in}
use Rattle.meaning.specs.Systems.{System}
use Rattle.rows.specs.Rows.{Row, normal_row, start_row, covers}
use Rattle.rows.specs.Outcomes.{outcome}
use Rattle.explore.specs.Frame.{Frame}
use Rattle.explore.specs.Search.{Entry}

-- Some of the first n products has more than 24 atoms.
unfoldable pub is_too_wide : ℕ → (ℕ → List ℕ) → Bool
is_too_wide zero p = false
is_too_wide (suc n) p = if_lt 24 (length (p n)) true (is_too_wide n p)

-- The outcome of move j from a row, in normal form.
abbrev pub outcome_at : System → Row → ℕ → Option Row
outcome_at S r j = elim (get_elem? S.moves j) [ none ↦ none | some t ↦ map normal_row (outcome t r) ]

-- The outcome is bad: its state is.
abbrev pub bad_row : System → Row → Bool
bad_row S r = is_in r.state S.bad

abbrev pub frame_of : System → Frame
frame_of S = record {
  Row = Row;
  moves = length S.moves;
  outcome = outcome_at S;
  bad = bad_row S;
  contains = covers S.channels;
  wide = λ r. is_too_wide S.channels r.products;
}

-- Row 0: the start, with every channel empty. It has no parent and no transition.
abbrev pub first_entry : (S : System) → Entry (frame_of S)
first_entry S = record { row = start_row S.start; parent = 65535; move = 65535 }
