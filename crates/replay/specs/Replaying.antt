-- What the replay answers to a table's bytes and a run's words.
use Rattle.std.specs.Prelude.{◌≡◌, List, ℕ, length, Result, Ok, Err}
use Rattle.common.specs.Choice.{if_lt}
use Rattle.common.specs.Refusal.{Refusal}
use Rattle.table.specs.Answers.{refusal_of}
use Rattle.table.specs.Checking.{check_table}
use Rattle.table.specs.Systems.{system_of}
use Rattle.table.specs.declared.checks.Shape.{Shape}
use Rattle.table.specs.declared.faults.Refusal as table
use Rattle.playing.specs.Play.{Replayed, stuck, ends_elsewhere, reaches_bad, replay}
use Rattle.replay.specs.declared.replays.Ending.{Ending}
use Rattle.replay.specs.declared.replays.Ending.TheVariants.{Stuck, Elsewhere, Bad}
use Rattle.replay.specs.declared.replays.Refused.{Refused}
use Rattle.replay.specs.declared.replays.Refused.TheVariants.{Table, TooLong}

-- A refusal, or what the words played say.
pub data ReplayAnswer : Type 0 where
  refused : Refusal → ReplayAnswer
  says : Replayed → ReplayAnswer

-- A run over 2,048 words: number 6, input 2 (the run), place 0.
abbrev pub long_run : Refusal
long_run = record { number = 6; input = 2; place = 0 }

-- The table's refusal comes first, then that of a run over 2,048 words.
abbrev pub answer_with : List ℕ → List ℕ → Result Shape table.Refusal → ReplayAnswer
answer_with t run (Err r) = refused (refusal_of r.fault r.at)
answer_with t run (Ok s) = if_lt 2048 (length run) (refused long_run) (says (replay (system_of t) run))

unfoldable pub replay_answer : List ℕ → List ℕ → ReplayAnswer
replay_answer t run = answer_with t run (check_table t)

-- What each answer of the call says.
abbrev pub answer_of : Result Ending Refused → ReplayAnswer
answer_of (Err (Table r)) = refused (refusal_of r.fault r.at)
answer_of (Err TooLong) = refused long_run
answer_of (Ok (Stuck n)) = says (stuck n)
answer_of (Ok (Elsewhere q)) = says (ends_elsewhere q)
answer_of (Ok (Bad n)) = says (reaches_bad n)

-- The answer of the call, fault and all: the one for each table and run.
abbrev pub found : Replayed → Ending
found (stuck n) = Stuck n
found (ends_elsewhere q) = Elsewhere q
found (reaches_bad n) = Bad n

abbrev pub replay_with : List ℕ → List ℕ → Result Shape table.Refusal → Result Ending Refused
replay_with t run (Err r) = Err (Table r)
replay_with t run (Ok s) = if_lt 2048 (length run) (Err TooLong) (Ok (found (replay (system_of t) run)))

unfoldable pub replay_of : List ℕ → List ℕ → Result Ending Refused
replay_of t run = replay_with t run (check_table t)

-- The promise of the call.
pub record Replays (t run : List ℕ) (r : Result Ending Refused) : Type 0 where
  pub says : answer_of r ≡ replay_answer t run
  pub exact : r ≡ replay_of t run
