-- The lines of a run's steps, and the whole output.
use Rattle.std.specs.Prelude.{Bool, true, false, List, [], ◌∷◌, ◌++◌, ℕ, length}
use Rattle.std.proofs.Math.Option.{Option, none, some}
use Rattle.std.proofs.Math.ListN.{get_elem?}
use Rattle.meaning.specs.Systems.{Operation, quiet, send, Move, System}
use Rattle.playing.specs.Play.{number, lost}
use Rattle.wording.specs.Words.{kept_word, lost_word, receive_word, quiet_word, end_word}
use Rattle.wording.specs.Numbers.{number_text}
use Rattle.wording.specs.Lines.{safe_line, unsafe_line, rows_full_line, atoms_full_line, refused_line, too_long_line}

-- What became of an operation's message, `gone` where it is marked lost.
unfoldable pub happened : Bool → Operation → List ℕ
happened gone quiet = quiet_word
happened gone (Operation.receive c m) = receive_word
happened true (send c m) = lost_word
happened false (send c m) = kept_word

-- The same of a move; nothing of one that is not there, which no run of the search has.
abbrev pub happened_to : Bool → Option Move → List ℕ
happened_to gone none = []
happened_to gone (some t) = happened gone t.operation

-- The line of a step: the transition's number, and what became of its message.
unfoldable pub step_line : System → ℕ → List ℕ
step_line S w = number_text (number w) ++ happened_to (lost w) (get_elem? S.moves (number w)) ++ end_word

-- The lines of a run's words.
unfoldable pub run_lines : System → List ℕ → List ℕ
run_lines S [] = []
run_lines S (w ∷ ws) = step_line S w ++ run_lines S ws

-- An unsafe table: its first line, and a line for each step.
unfoldable pub unsafe_text : System → ℕ → List ℕ → List ℕ
unsafe_text S rows run = unsafe_line rows (length run) ++ run_lines S run

-- What the program can say of its input.
pub data Answer : Type 0 where
  too_long : Answer
  -- Number and place.
  refused : ℕ → ℕ → Answer
  -- Rows.
  safe : ℕ → Answer
  -- Rows, and the words of the run.
  unsafe : ℕ → List ℕ → Answer
  -- The row and the transition that met it.
  rows_full : ℕ → ℕ → Answer
  atoms_full : ℕ → ℕ → Answer

-- The whole output for an answer.
abbrev pub answer_text : System → Answer → List ℕ
answer_text S too_long = too_long_line
answer_text S (refused number place) = refused_line number place
answer_text S (safe rows) = safe_line rows
answer_text S (unsafe rows run) = unsafe_text S rows run
answer_text S (rows_full row transition) = rows_full_line row transition
answer_text S (atoms_full row transition) = atoms_full_line row transition
