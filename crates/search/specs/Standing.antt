-- The rows that the words of the work table tell, as rows of the search.
use Rattle.std.specs.Prelude.{◌≡◌, List, [], ◌∷◌, map, ℕ, zero, suc, ◌+◌, ◌*◌, ◌<◌, ◌≤◌, get_or, length, drop}
use Rattle.common.proofs.AtLaws.{Grows}
use Rattle.meaning.specs.Systems.{System}
use Rattle.work.specs.Layout.{Stored, Holds}
use Rattle.work.specs.Room.{room_of}
use Rattle.explore.specs.Search.{Entry}
use Rattle.explore.specs.Found.{Rows}
use Rattle.findings.specs.Search.{frame_of, first_entry}
use Rattle.outcome.specs.Look.{row_at}

module _ (S : System) where
  -- Row i, with the row and the transition that it came from.
  abbrev pub entry_at : List ℕ → ℕ → Entry (frame_of S)
  entry_at w i = record { row = row_at w i; parent = get_or w (103 * i + 1) 0; move = get_or w (103 * i + 2) 0 }

  -- k rows, from row i on.
  unfoldable pub entries_at : List ℕ → ℕ → ℕ → List (Entry (frame_of S))
  entries_at w zero i = []
  entries_at w (suc k) i = entry_at w i ∷ entries_at w k (i + 1)

  -- The first so many rows.
  abbrev pub entries : List ℕ → ℕ → List (Entry (frame_of S))
  entries w rows = entries_at w rows 0

  -- A row as the work table stores it.
  abbrev pub stored_of : Entry (frame_of S) → Stored
  stored_of e = record { row = e.row; parent = e.parent; move = e.move }

  abbrev pub stored : List (Entry (frame_of S)) → List Stored
  stored l = map stored_of l

  -- The first rows of the words are rows that the search makes, laid out as they must be.
  pub record Standing (room : ℕ) (w : List ℕ) (rows : ℕ) : Type 0 where
    pub made : Rows (frame_of S) room (first_entry S) (entries w rows)
    pub laid : Holds w (stored (entries w rows)) w

  -- With the room that the words have.
  abbrev pub Stands : List ℕ → ℕ → Type 0
  Stands w rows = Standing (room_of (length w)) w rows

  -- Rows that lead back to row 0: they have room, and each but the first tells the row that it came from, an earlier one, and the transition.
  pub record LeadBack (w : List ℕ) (rows : ℕ) : Type 0 where
    pub few : rows ≤ room_of (length w)
    pub earlier : (n : ℕ) → 0 < n → n < rows → get_or w (103 * n + 1) 0 < n
    pub moves : (n : ℕ) → 0 < n → n < rows → get_or w (103 * n + 2) 0 < length S.moves

  -- From the words w with so many rows the words v with n rows came: the rows are still there, and what stands behind the n rows is as it was.
  pub record Grown (room : ℕ) (w : List ℕ) (rows : ℕ) (v : List ℕ) (n : ℕ) : Type 0 where
    pub standing : Standing room v n
    pub grows : Grows (entries w rows) (entries v n)
    pub behind : drop (103 * n) v ≡ drop (103 * n) w
