-- What is said of the rows that a search made, and of its verdict.
use Rattle.std.specs.Prelude.{◌≡◌, true, false, List, ℕ, ◌<◌, ◌≤◌, length}
use Rattle.std.proofs.Math.Option.{none, some}
use Rattle.common.proofs.AtLaws.{At}
use Rattle.explore.specs.Frame.{Frame}
use Rattle.explore.specs.Search.{Entry, Verdict, safe, unsafe, atoms_full, rows_full, covered}

module _ (F : Frame) where
  -- Move m of the row r is settled: impossible, or its outcome is in one row that is there.
  pub data Settled (l : List (Entry F)) (r : F.Row) (m : ℕ) : Type 0 where
    never : F.outcome r m ≡ none → Settled l r m
    within : (o : F.Row) → F.outcome r m ≡ some o → F.bad o ≡ false → covered F l o ≡ true → Settled l r m

  -- The moves of r below j are.
  abbrev pub Done : List (Entry F) → F.Row → ℕ → Type 0
  Done l r j = (m : ℕ) → m < j → Settled l r m

  -- An entry came from an earlier row by a move, and is neither bad nor too wide.
  pub record Linked (l : List (Entry F)) (n : ℕ) (e : Entry F) : Type 0 where
    pub earlier : e.parent < n
    pub source : Entry F
    pub stands : At l e.parent source
    pub move : e.move < F.moves
    pub comes : F.outcome source.row e.move ≡ some e.row
    pub harmless : F.bad e.row ≡ false
    pub narrow : F.wide e.row ≡ false

  -- Each but the first did, and they are no more than there is room for.
  pub record Rows (room : ℕ) (first : Entry F) (l : List (Entry F)) : Type 0 where
    pub starts : At l 0 first
    pub few : length l ≤ room
    pub linked : (n : ℕ) (e : Entry F) → 0 < n → At l n e → Linked l n e

  -- What a verdict says of the rows.
  pub record Met (l : List (Entry F)) (i j : ℕ) (P : F.Row → Type 0) : Type 0 where
    pub source : Entry F
    pub stands : At l i source
    pub move : j < F.moves
    pub outcome : F.Row
    pub comes : F.outcome source.row j ≡ some outcome
    pub meets : P outcome

  abbrev pub Says : ℕ → List (Entry F) → Verdict → Type 0
  Says room l safe = (n : ℕ) (e : Entry F) → At l n e → Done l e.row F.moves
  Says room l (unsafe i j) = Met l i j (λ o. F.bad o ≡ true)
  Says room l (atoms_full i j) = Met l i j (λ o. (F.bad o ≡ false) × (covered F l o ≡ false) × (F.wide o ≡ true))
  Says room l (rows_full i j) = Met l i j (λ o. (F.bad o ≡ false) × (covered F l o ≡ false) × (F.wide o ≡ false) × (length l ≡ room))
