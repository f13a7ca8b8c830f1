-- What the search answers, and what it leaves in lent memory: a function of the table and of how many words are lent.
use Rattle.std.specs.Prelude.{◌≡◌, List, [], ℕ, ◌*◌, length, Ok, Err}
use Rattle.std.specs.Prelude as std
use Rattle.common.specs.Choice.{if_true, if_lt}
use Rattle.common.specs.First.{is_in}
use Rattle.common.specs.Front.{front}
use Rattle.common.specs.Refusal.{Refusal}
use Rattle.meaning.specs.Systems.{System}
use Rattle.table.specs.Answers.{refusal_of}
use Rattle.table.specs.Checking.{check_table}
use Rattle.table.specs.Systems.{system_of}
use Rattle.table.specs.declared.checks.Shape.{Shape}
use Rattle.table.specs.declared.faults.Refusal as table
use Rattle.work.specs.Layout.{Stored, all_words}
use Rattle.work.specs.Room.{room_of}
use Rattle.explore.specs.Search as explore
use Rattle.findings.specs.Search.{frame_of, first_entry}
use Rattle.findings.specs.Rebuild.{run_of}
use Rattle.search.specs.Standing.{stored}
use Rattle.search.specs.Visits.{verdict_of}
use Rattle.search.specs.declared.visits.Stop.{Stop}
use Rattle.search.specs.declared.searches.Verdict.{Verdict}
use Rattle.search.specs.declared.searches.Verdict.TheVariants.{Safe, Unsafe, RowsFull, AtomsFull}
use Rattle.search.specs.declared.searches.Refused.{Refused}
use Rattle.search.specs.declared.searches.Refused.TheVariants.{Table, SmallWork, SmallRun}

-- What the call answers.
abbrev pub Answer : Type 0
Answer = std.Result Verdict Refused

-- An answer, the rows made, and the run's words.
pub record Result : Type 0 where
  pub answer : Answer
  pub rows : List Stored
  pub run : List ℕ

-- Nothing is written.
abbrev pub unwritten : Answer → Result
unwritten a = record { answer = a; rows = []; run = [] }

-- By the verdict of the search over rows: the rows made so far stay, and there is a run only with unsafe.
abbrev pub concluded : (S : System) → List (explore.Entry (frame_of S)) → explore.Verdict → Result
concluded S l explore.safe = record { answer = Ok (Safe (length l)); rows = stored S l; run = [] }
concluded S l (explore.unsafe i j) = record { answer = Ok (Unsafe (length l) (length (run_of S l i j))); rows = stored S l; run = run_of S l i j }
concluded S l (explore.atoms_full i j) = record { answer = Ok (AtomsFull (length l) i j); rows = stored S l; run = [] }
concluded S l (explore.rows_full i j) = record { answer = Ok (RowsFull (length l) i j); rows = stored S l; run = [] }

abbrev pub found_by : (S : System) → explore.Found (frame_of S) → Result
found_by S f = concluded S f.rows f.verdict

-- The search of a system with room for so many rows. A bad start is unsafe at once: no row, and the empty run.
unfoldable pub search_system : System → ℕ → Result
search_system S room = if_true (is_in S.start S.bad) (unwritten (Ok (Unsafe 0 0))) (found_by S (explore.search (frame_of S) room (first_entry S)))

-- The table's refusal comes first, then that of a work table under 103 words, then that of a run buffer under twice the rows there is room for.
abbrev pub search_with : List ℕ → ℕ → ℕ → std.Result Shape table.Refusal → Result
search_with t work run (Err r) = unwritten (Err (Table r))
search_with t work run (Ok s) =
    if_lt work 103 (unwritten (Err (SmallWork work))) (if_lt run (2 * room_of work) (unwritten (Err (SmallRun run))) (search_system (system_of t) (room_of work)))

unfoldable pub search_of : List ℕ → ℕ → ℕ → Result
search_of t work run = search_with t work run (check_table t)

-- The answer is that of x; x's rows stand in the first words of the work table and its run in the first of the run buffer; all other words are as they
-- were.
pub record Leaves (x : Result) (work run : List ℕ) (r : Answer) (work' run' : List ℕ) : Type 0 where
  pub answer : r ≡ x.answer
  pub rows : work' ≡ front (all_words x.rows) work
  pub words : run' ≡ front x.run run

-- The answer and the run buffer where the search ended at move j of row i, with the rows l.
pub record Concluded (S : System) (l : List (explore.Entry (frame_of S))) (i j : ℕ) (y : Stop) (run : List ℕ) (r : Answer) (run' : List ℕ) : Type 0 where
  pub answer : r ≡ (concluded S l (verdict_of y i j)).answer
  pub words : run' ≡ front (concluded S l (verdict_of y i j)).run run

-- The promise of the call.
abbrev pub Searches : (t work run : List ℕ) → Answer → List ℕ → List ℕ → Type 0
Searches t work run r work' run' = Leaves (search_of t (length work) (length run)) work run r work' run'

-- ---- what each answer says, in the numbers that every caller sees

pub data Said : Type 0 where
  refused : Refusal → Said
  safe : ℕ → Said
  unsafe : ℕ → ℕ → Said
  rows_full : ℕ → ℕ → ℕ → Said
  atoms_full : ℕ → ℕ → ℕ → Said

-- 7 and 8: a lent buffer (input 3) of that length is too short.
abbrev pub said : Answer → Said
said (Err (Table r)) = refused (refusal_of r.fault r.at)
said (Err (SmallWork n)) = refused (record { number = 7; input = 3; place = n })
said (Err (SmallRun n)) = refused (record { number = 8; input = 3; place = n })
said (Ok (Safe n)) = safe n
said (Ok (Unsafe n k)) = unsafe n k
said (Ok (RowsFull n i j)) = rows_full n i j
said (Ok (AtomsFull n i j)) = atoms_full n i j
