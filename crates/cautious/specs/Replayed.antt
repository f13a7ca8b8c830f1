-- Search and replay in a row: the answer, and what is left in lent memory.
use Rattle.std.specs.Prelude.{◌≡◌, List, ℕ, Result, Ok, Err}
use Rattle.common.specs.Front.{front}
use Rattle.search.specs.Searching as search
use Rattle.search.specs.declared.searches.Verdict.TheVariants as verdict
use Rattle.replay.specs.Replaying.{replay_of}
use Rattle.replay.specs.declared.replays.Ending.{Ending}
use Rattle.replay.specs.declared.replays.Ending.TheVariants as ending
use Rattle.replay.specs.declared.replays.Refused as replay
use Rattle.cautious.specs.Judged.{result_of, work_left}
use Rattle.cautious.specs.declared.replayed.Reached.{Reached}
use Rattle.cautious.specs.declared.replayed.NotReached.{NotReached}
use Rattle.cautious.specs.declared.replayed.NotReached.TheVariants.{Denied, NotUnsafe}

-- What the call answers.
abbrev pub Replayed : Type 0
Replayed = Result Reached NotReached

-- By what the replay says of the run of a search with n rows.
abbrev pub by_replay : ℕ → Result Ending replay.Refused → Replayed
by_replay n (Err r) = Err (Denied (Err r))
by_replay n (Ok (ending.Stuck i)) = Err (Denied (Ok (ending.Stuck i)))
by_replay n (Ok (ending.Elsewhere q)) = Err (Denied (Ok (ending.Elsewhere q)))
by_replay n (Ok (ending.Bad k)) = Ok (record { rows = n; steps = k })

-- By what the search says and its run.
abbrev pub run_said : List ℕ → List ℕ → search.Answer → Replayed
run_said t run (Err r) = Err (NotUnsafe (Err r))
run_said t run (Ok (verdict.Safe n)) = Err (NotUnsafe (Ok (verdict.Safe n)))
run_said t run (Ok (verdict.Unsafe n k)) = by_replay n (replay_of t run)
run_said t run (Ok (verdict.RowsFull n i j)) = Err (NotUnsafe (Ok (verdict.RowsFull n i j)))
run_said t run (Ok (verdict.AtomsFull n i j)) = Err (NotUnsafe (Ok (verdict.AtomsFull n i j)))

-- The promise of the call: answer and lent memory are those of the search and the replay.
pub record ReplaysSearch (t work run : List ℕ) (r : Replayed) (work' run' : List ℕ) : Type 0 where
  pub answer : r ≡ run_said t (result_of t work run).run (result_of t work run).answer
  pub rows : work' ≡ work_left t work run
  pub words : run' ≡ front (result_of t work run).run run
