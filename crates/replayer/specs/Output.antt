-- What the program writes for the bytes of a table and the bytes of a text.
use Rattle.std.specs.Prelude.{List, ℕ, length, Result, Ok, Err}
use Rattle.common.specs.Choice.{if_lt}
use Rattle.table.specs.Answers.{number_of, place_of}
use Rattle.table.specs.Checking.{check_table}
use Rattle.table.specs.declared.checks.Shape.{Shape}
use Rattle.table.specs.declared.faults.Refusal.{Refusal}
use Rattle.playing.specs.Play.{stuck, ends_elsewhere, reaches_bad}
use Rattle.replay.specs.Replaying.{ReplayAnswer, refused, says, replay_answer}
use Rattle.wording.specs.Answers.{stuck_line, elsewhere_line, reaches_bad_line, refusal_line, no_run_line, long_table_line, long_run_line}
use Rattle.steps.specs.Runs.{Told, run, not_at, run_in}

-- The line of an answer of the replay.
abbrev pub line_of : ReplayAnswer → List ℕ
line_of (refused r) = refusal_line r.number r.input r.place
line_of (says (stuck step)) = stuck_line step
line_of (says (ends_elsewhere state)) = elsewhere_line state
line_of (says (reaches_bad steps)) = reaches_bad_line steps

-- A text that is no run: the table's refusal comes first.
abbrev pub no_run_text : Result Shape Refusal → ℕ → List ℕ
no_run_text (Err r) line = refusal_line (number_of r.fault) 0 (place_of r.fault r.at)
no_run_text (Ok s) line = no_run_line line

-- What is said of a table and of what the text tells.
abbrev pub told_text : List ℕ → Told → List ℕ
told_text t (run words) = line_of (replay_answer t words)
told_text t (not_at line) = no_run_text (check_table t) line

-- The whole output. The longest legal table has 36,874 bytes; the longest text of a run has a first line of at most 60 bytes and 2,048 steps
-- of at most 14.
unfoldable pub output_of : List ℕ → List ℕ → List ℕ
output_of t text = if_lt 36874 (length t) long_table_line (if_lt 28732 (length text) long_run_line (told_text t (run_in text)))
