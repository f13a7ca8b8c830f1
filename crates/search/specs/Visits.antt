-- What the visit of one move, the pass over a row's moves and the walk over the rows answer and leave.
use Rattle.std.specs.Prelude.{◌≡◌, List, ℕ, length, Result, Ok, Err}
use Rattle.std.proofs.Math.Option.{Option}
use Rattle.meaning.specs.Systems.{System}
use Rattle.rows.specs.Rows.{Row}
use Rattle.explore.specs.Search.{Verdict, unsafe, atoms_full, rows_full, safe, on, stop, tests, through, ended, pass, walk}
use Rattle.findings.specs.Search.{frame_of}
use Rattle.outcome.specs.Look.{row_at}
use Rattle.search.specs.Standing.{entries, Grown}
use Rattle.search.specs.declared.visits.Stop.{Stop}
use Rattle.search.specs.declared.visits.Stop.TheVariants.{Unsafe, AtomsFull, RowsFull}
use Rattle.search.specs.declared.passes.Ended.{Ended}

-- The verdict at move j of row i.
abbrev pub verdict_of : Stop → ℕ → ℕ → Verdict
verdict_of Unsafe i j = unsafe i j
verdict_of AtomsFull i j = atoms_full i j
verdict_of RowsFull i j = rows_full i j

module _ (S : System) (room : ℕ) (w : List ℕ) (rows : ℕ) where
  -- The six tests of the outcome o of move j of row i have the answer r, and leave the words v.
  pub data Tests (i j : ℕ) (o : Option Row) : Result ℕ Stop → List ℕ → Type 0 where
    goes : {n : ℕ} {v : List ℕ} → tests (frame_of S) room (entries S w rows) i j o ≡ on (entries S v n) → Grown S room w rows v n → Tests i j o (Ok n) v
    stops : {y : Stop} → tests (frame_of S) room (entries S w rows) i j o ≡ stop (verdict_of y i j) → Tests i j o (Err y) w

  -- The pass over the moves of row i has the answer r, and leaves the words v.
  pub data Passes (i : ℕ) : Result ℕ Ended → List ℕ → Type 0 where
    all : {n : ℕ} {v : List ℕ} → pass (frame_of S) room (length S.moves) (entries S w rows) (row_at w i) i 0 ≡ through (entries S v n) → Grown S room w rows v n
        → Passes i (Ok n) v
    cut : {y : Stop} {n j : ℕ} {v : List ℕ} → pass (frame_of S) room (length S.moves) (entries S w rows) (row_at w i) i 0 ≡ ended (verdict_of y i j) (entries S v n)
        → Grown S room w rows v n → Passes i (Err (record { why = y; rows = n; row = i; transition = j })) v

  -- The walk over the rows has the answer r, and leaves the words v.
  pub data Walks : Result ℕ Ended → List ℕ → Type 0 where
    whole : {n : ℕ} {v : List ℕ} → walk (frame_of S) room room (entries S w rows) 0 ≡ record { verdict = safe; rows = entries S v n } → Grown S room w rows v n → Walks (Ok n) v
    short : {y : Stop} {n i j : ℕ} {v : List ℕ} → walk (frame_of S) room room (entries S w rows) 0 ≡ record { verdict = verdict_of y i j; rows = entries S v n } → Grown S room w rows v n
        → Walks (Err (record { why = y; rows = n; row = i; transition = j })) v
