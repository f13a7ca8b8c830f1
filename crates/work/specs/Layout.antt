-- The work table: rows in lent words, 103 to a row: state, parent row, transition, then for each of 4 channels a count and 24 atoms.
use Rattle.std.specs.Prelude.{◌≡◌, List, [], ◌∷◌, ◌++◌, ℕ, zero, suc, ◌+◌, ◌*◌, ◌-◌, ◌≤◌, length, replicate}
use Rattle.common.specs.Each.{Each}
use Rattle.common.specs.Front.{front}
use Rattle.rows.specs.Rows.{Row, start_row}

-- A row as the search made it: from which row, and by which transition.
pub record Stored : Type 0 where
  pub row : Row
  pub parent : ℕ
  pub move : ℕ

-- A product in its 25 words: its count, its atoms, and 0 in the atom places past the count.
unfoldable pub channel_words : List ℕ → List ℕ
channel_words p = length p ∷ (p ++ replicate (24 - length p) 0)

-- The words of the first n channels.
unfoldable pub channels_words : ℕ → (ℕ → List ℕ) → List ℕ
channels_words zero p = []
channels_words (suc c) p = channels_words c p ++ channel_words (p c)

-- The 103 words of a row.
unfoldable pub row_words : Stored → List ℕ
row_words e = (e.row.state ∷ e.parent ∷ e.move ∷ []) ++ channels_words 4 e.row.products

-- The words of the rows, one after the other.
unfoldable pub all_words : List Stored → List ℕ
all_words [] = []
all_words (e ∷ l) = row_words e ++ all_words l

-- Where the count of channel c of row i stands, and where its atoms begin.
abbrev pub count_place : ℕ → ℕ → ℕ
count_place i c = 103 * i + 3 + 25 * c

abbrev pub atoms_place : ℕ → ℕ → ℕ
atoms_place i c = 103 * i + 4 + 25 * c

-- Each product has at most 24 atoms.
abbrev pub Narrow : Row → Type 0
Narrow r = (c : ℕ) → length (r.products c) ≤ 24

abbrev pub NarrowRows : List Stored → Type 0
NarrowRows l = Each (λ e. Narrow e.row) l

-- The words w hold the rows l, and all later places hold what z does.
abbrev pub Holds : List ℕ → List Stored → List ℕ → Type 0
Holds w l z = w ≡ front (all_words l) z

-- Row 0: the start state with every channel empty, and 65,535 as parent and transition.
abbrev pub start_stored : ℕ → Stored
start_stored s = record { row = start_row s; parent = 65535; move = 65535 }
