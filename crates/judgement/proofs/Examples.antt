-- Worked examples: system B and its list, a self-loop send without its star, and two rows that have an outcome only between them.
use mathlib.Core.Path.{◌≡◌, refl}
use mathlib.Core.List.{List, [], ◌∷◌}
use Prim.Native.Nat.{ℕ}
use lib.ListN.{get_or}
use Rattle.common.specs.Choice.{if_true, if_eq}
use Rattle.common.specs.First.{any_of, first_place, first_with}
use Rattle.meaning.specs.Systems.{System, send, receive, quiet, put}
use Rattle.atoms.specs.Masks.{bit, star, has, sub, absorbs}
use Rattle.atoms.specs.Contained.{against, contained}
use Rattle.atoms.specs.Receive.{received}
use Rattle.rows.specs.Rows.{Row, each_contained, covers}
use Rattle.rows.specs.Outcomes.{after, outcome}
use Rattle.judgement.specs.Judge.{accepted, no_start, bad_row, not_closed, judge}

-- System B: 0 to 0 sends 0; 0 to 1 receives 0; 1 to 2 receives 1; bad 2.
abbrev system_b : System
system_b = record {
  states = 3;
  channels = 1;
  messages = 2;
  start = 0;
  moves =
      record { source = 0; target = 0; operation = send 0 0 }
      ∷ record { source = 0; target = 1; operation = receive 0 0 }
      ∷ record { source = 1; target = 2; operation = receive 0 1 }
      ∷ [];
  bad = 2 ∷ [];
}

-- A row with one product.
abbrev row : ℕ → List ℕ → Row
row state p = record { state = state; products = λ c. get_or (p ∷ []) c [] }

-- The atoms 0? and {0}*.
abbrev single0 : ℕ
single0 = 1

abbrev star0 : ℕ
star0 = 32769

-- Its list.
abbrev first : Row
first = row 0 []

abbrev second : Row
second = row 0 (star0 ∷ [])

abbrev last : Row
last = row 1 (star0 ∷ [])

-- Two channels, a quiet move from 0 to 1, and no bad state.
abbrev quiet_system : System
quiet_system = record { states = 2; channels = 2; messages = 1; start = 0; moves = record { source = 0; target = 1; operation = quiet } ∷ []; bad = [] }

abbrev row2 : ℕ → List ℕ → List ℕ → Row
row2 state p q = record { state = state; products = λ c. get_or (p ∷ q ∷ []) c [] }

pub record Worked : Type 0 where
  -- B's list, without its last row, without its first, without both rows of the start, and none at all.
  pub b_accepted : judge system_b (first ∷ second ∷ last ∷ []) ≡ accepted
  pub b_without_last : judge system_b (first ∷ second ∷ []) ≡ not_closed 1 1
  pub b_without_first : judge system_b (second ∷ last ∷ []) ≡ accepted
  pub b_without_start : judge system_b (last ∷ []) ≡ no_start
  pub b_empty : judge system_b [] ≡ no_start
  -- A bad row is told before a row that is not closed; the lowest is told.
  pub b_bad : judge system_b (first ∷ row 2 [] ∷ row 2 [] ∷ []) ≡ bad_row 1
  -- Order and doubles do not matter, but for the numbers told.
  pub b_reordered : judge system_b (last ∷ second ∷ last ∷ first ∷ []) ≡ accepted
  -- The self-loop send is tested with its star: 0?0? does not hold what any number of rounds leaves.
  pub no_star : judge system_b (row 0 (single0 ∷ single0 ∷ []) ∷ last ∷ []) ≡ not_closed 0 0
  -- Two rows that have one product of the outcome each do not contain it between them; one that has both does, wherever it stands.
  pub not_between_them : judge quiet_system (row2 0 (single0 ∷ []) (single0 ∷ []) ∷ row2 1 (single0 ∷ []) [] ∷ row2 1 [] (single0 ∷ []) ∷ []) ≡ not_closed 0 0
  pub in_one_of_them : judge quiet_system (row2 0 (single0 ∷ []) (single0 ∷ []) ∷ row2 1 (single0 ∷ []) [] ∷ row2 1 (star0 ∷ []) (single0 ∷ []) ∷ []) ≡ accepted

worked : Worked
unfolding judge any_of first_place first_with outcome after covers each_contained contained against received if_true if_eq star has sub bit absorbs put
worked = record {
  b_accepted = refl;
  b_without_last = refl;
  b_without_first = refl;
  b_without_start = refl;
  b_empty = refl;
  b_bad = refl;
  b_reordered = refl;
  no_star = refl;
  not_between_them = refl;
  in_one_of_them = refl;
}
