-- The lines of a run, read back as its words.
use Rattle.std.specs.Prelude.{◌≡◌, List, [], ◌∷◌, ◌++◌, ℕ, zero, suc, ◌+◌, ◌≤◌, length, Result, Ok, Err}
use Rattle.common.specs.Part.{part}
use Rattle.wording.specs.Words.{unsafe_word, steps_word, kept_word, lost_word, receive_word, quiet_word, end_word}
use Rattle.steps.specs.Texts.{Read, read, nothing, behind, next, either, number_in, counted_in}
use Rattle.steps.specs.declared.runs.NoRun.{NoRun}

-- What stands behind a step's number, as the run word: the number, plus 32,768 where the message was lost.
unfoldable pub ending_in : ℕ → List ℕ → Read
ending_in n l =
    either (behind n (kept_word ++ end_word) l)
    (either (behind (n + 32768) (lost_word ++ end_word) l) (either (behind n (receive_word ++ end_word) l) (behind n (quiet_word ++ end_word) l)))

-- The line of a step, as its run word.
unfoldable pub step_in : List ℕ → Read
step_in l = next (number_in l) ending_in

-- The first line of an unsafe table, as its count of steps.
unfoldable pub first_in : List ℕ → Read
first_in l = next (counted_in unsafe_word l) (λ rows r. next (counted_in steps_word r) (λ steps s. behind steps end_word s))

-- What a text says: the words of a run; or the number of the first line that is not one of the run's, where the lines are numbered from 1.
pub data Told : Type 0 where
  run : List ℕ → Told
  not_at : ℕ → Told

-- So many steps are still to come, behind the words that are read; then the text must end.
unfoldable pub steps_in : ℕ → List ℕ → List ℕ → ℕ → Told
steps_in zero ws [] line = run ws
steps_in zero ws (c ∷ l) line = not_at line
steps_in (suc k) ws l line = elim (step_in l) [ nothing ↦ not_at line | read w r ↦ steps_in k (ws ++ (w ∷ [])) r (line + 1) ]

unfoldable pub run_in : List ℕ → Told
run_in l = elim (first_in l) [ nothing ↦ not_at 1 | read steps r ↦ steps_in steps [] r 2 ]

-- ---- what the call says

-- The first words of the buffer, or the line.
abbrev pub told_by : Result ℕ NoRun → List ℕ → Told
told_by (Ok n) words = run (part 0 n words)
told_by (Err e) words = not_at e.line

abbrev pub Fits : Result ℕ NoRun → List ℕ → Type 0
Fits (Ok n) words = n ≤ length words
Fits (Err e) words = Unit {0}

pub record Tells (m : Told) (r : Result ℕ NoRun) (words : List ℕ) : Type 0 where
  pub says : told_by r words ≡ m
  pub fits : Fits r words
