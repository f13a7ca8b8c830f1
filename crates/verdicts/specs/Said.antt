-- What is said of a verdict of the search.
use Rattle.std.specs.Prelude.{List, ℕ, ◌≤◌, length, Ok, Err}
use Rattle.common.specs.Part.{part}
use Rattle.table.specs.Answers.{number_of, place_of}
use Rattle.search.specs.Searching as searching
use Rattle.search.specs.declared.searches.Verdict.TheVariants.{Safe, Unsafe, RowsFull, AtomsFull}
use Rattle.search.specs.declared.searches.Refused.{Refused}
use Rattle.search.specs.declared.searches.Refused.TheVariants.{Table, SmallWork, SmallRun}
use Rattle.wording.specs.Steps.{Answer, refused, safe, unsafe, rows_full, atoms_full}

-- The number of a refusal, and its place: of a buffer that is too short its length.
abbrev pub number_in : Refused → ℕ
number_in (Table r) = number_of r.fault
number_in (SmallWork n) = 7
number_in (SmallRun n) = 8

abbrev pub place_in : Refused → ℕ
place_in (Table r) = place_of r.fault r.at
place_in (SmallWork n) = n
place_in (SmallRun n) = n

-- What an answer of the search says, where the run buffer holds these words. The rows made are told only of a search that came to its end or found a run.
abbrev pub said_by : searching.Answer → List ℕ → Answer
said_by (Err e) run = refused (number_in e) (place_in e)
said_by (Ok (Safe rows)) run = safe rows
said_by (Ok (Unsafe rows steps)) run = unsafe rows (part 0 steps run)
said_by (Ok (RowsFull rows row transition)) run = rows_full row transition
said_by (Ok (AtomsFull rows row transition)) run = atoms_full row transition

-- The steps that it names stand in the run buffer.
abbrev pub StepsFit : searching.Answer → List ℕ → Type 0
StepsFit (Err e) run = Unit {0}
StepsFit (Ok (Safe rows)) run = Unit {0}
StepsFit (Ok (Unsafe rows steps)) run = steps ≤ length run
StepsFit (Ok (RowsFull rows row transition)) run = Unit {0}
StepsFit (Ok (AtomsFull rows row transition)) run = Unit {0}
