-- The search: rows in order, for each row its moves in order, for each outcome six tests in order.
use Rattle.std.specs.Prelude.{Bool, List, [], ◌∷◌, ◌++◌, ℕ, zero, suc, ◌+◌, length}
use Rattle.std.proofs.Math.Option.{Option, none, some}
use Rattle.std.proofs.Math.ListN.{get_elem?}
use Rattle.common.specs.Choice.{if_true, if_lt}
use Rattle.common.specs.First.{any_of}
use Rattle.explore.specs.Frame.{Frame}

-- A row of the search, with the row and the move that it came from.
pub record Entry (F : Frame) : Type 0 where
  pub row : F.Row
  pub parent : ℕ
  pub move : ℕ

-- How the search ends: safe, or at a move of a row that is unsafe, finds the outcome too wide, or finds no room.
pub data Verdict : Type 0 where
  safe : Verdict
  unsafe : ℕ → ℕ → Verdict
  atoms_full : ℕ → ℕ → Verdict
  rows_full : ℕ → ℕ → Verdict

-- Some row already there contains the outcome; the first that does ends the look.
unfoldable pub covered : (F : Frame) → List (Entry F) → F.Row → Bool
covered F l o = any_of (λ e. F.contains e.row o) l

-- What the tests of one outcome say: go on with these rows, or stop.
pub data Visit (F : Frame) : Type 0 where
  on : List (Entry F) → Visit F
  stop : Verdict → Visit F

-- The six tests of the outcome of move j from row i: impossible, bad, contained, too wide, no room, append.
unfoldable pub tests : (F : Frame) → ℕ → List (Entry F) → ℕ → ℕ → Option F.Row → Visit F
tests F room l i j none = on l
tests F room l i j (some o) =
    if_true (F.bad o) (stop (unsafe i j))
    (if_true (covered F l o) (on l)
    (if_true (F.wide o) (stop (atoms_full i j))
    (if_lt (length l) room (on (l ++ (record { row = o; parent = i; move = j } ∷ []))) (stop (rows_full i j)))))

-- The moves of a row r, which is row i, from move j on, k of them: the rows then, or the end.
pub data Pass (F : Frame) : Type 0 where
  through : List (Entry F) → Pass F
  ended : Verdict → List (Entry F) → Pass F

unfoldable pub pass : (F : Frame) → ℕ → ℕ → List (Entry F) → F.Row → ℕ → ℕ → Pass F
pass F room zero l r i j = through l
pass F room (suc k) l r i j = elim (tests F room l i j (F.outcome r j)) [ on m ↦ pass F room k m r i (j + 1) | stop v ↦ ended v l ]

-- What the search finds: its verdict, and the rows made so far.
pub record Found (F : Frame) : Type 0 where
  pub verdict : Verdict
  pub rows : List (Entry F)

-- The rows from row i on, at most k of them.
unfoldable pub walk : (F : Frame) → ℕ → ℕ → List (Entry F) → ℕ → Found F
walk F room zero l i = record { verdict = safe; rows = l }
walk F room (suc k) l i =
    elim (get_elem? l i) [
      | none ↦ record { verdict = safe; rows = l }
      | some e ↦ elim (pass F room F.moves l e.row i 0) [ through m ↦ walk F room k m (i + 1) | ended v m ↦ record { verdict = v; rows = m } ]
    ]

-- The search from a first row, with room for so many rows.
unfoldable pub search : (F : Frame) → ℕ → Entry F → Found F
search F room first = walk F room room (first ∷ []) 0
