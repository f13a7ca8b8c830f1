-- What the judge answers to a table's bytes and a list's bytes.
use Rattle.std.specs.Prelude.{◌≡◌, List, ℕ, Option, Some, None, Result, Ok, Err}
use Rattle.common.specs.Refusal.{Refusal}
use Rattle.table.specs.Answers.{refusal_of}
use Rattle.table.specs.Checking.{check_table}
use Rattle.table.specs.Systems.{system_of}
use Rattle.table.specs.declared.checks.Shape.{Shape}
use Rattle.table.specs.declared.faults.Refusal as table
use Rattle.lists.specs.Answers.{list_refusal}
use Rattle.lists.specs.Reading.{ListChecked, check_list, rows_of}
use Rattle.judgement.specs.Judge.{accepted, no_start, bad_row, not_closed, judge}
use Rattle.judgement.specs.Judge as judgement
use Rattle.judge.specs.Memory.{rows_in}
use Rattle.judge.specs.declared.memory.Rows.{Rows}
use Rattle.judge.specs.declared.moves.Open.{Open}
use Rattle.judge.specs.declared.judging.Judgement.{Judgement}
use Rattle.judge.specs.declared.judging.Judgement.TheVariants.{NoStart, BadRow, NotClosed, Accepted}
use Rattle.judge.specs.declared.judging.Refused.{Refused}
use Rattle.judge.specs.declared.judging.Refused.TheVariants as refused_by

-- A refusal, or what is said of the rows.
pub data JudgeAnswer : Type 0 where
  refused : Refusal → JudgeAnswer
  says : judgement.Judgement → JudgeAnswer

-- The table's refusal comes first, then the list's.
abbrev pub answer_for : List ℕ → Shape → List ℕ → ListChecked → JudgeAnswer
answer_for t s list (Err r) = refused (list_refusal r.fault r.at)
answer_for t s list (Ok n) = says (judge (system_of t) (rows_of s list))

abbrev pub answer_with : List ℕ → List ℕ → Result Shape table.Refusal → JudgeAnswer
answer_with t list (Err r) = refused (refusal_of r.fault r.at)
answer_with t list (Ok s) = answer_for t s list (check_list s list)

unfoldable pub judge_answer : List ℕ → List ℕ → JudgeAnswer
judge_answer t list = answer_with t list (check_table t)

-- What each answer of the call says.
abbrev pub answer_of : Result Judgement Refused → JudgeAnswer
answer_of (Err (refused_by.Table r)) = refused (refusal_of r.fault r.at)
answer_of (Err (refused_by.List r)) = refused (list_refusal r.fault r.at)
answer_of (Ok NoStart) = says no_start
answer_of (Ok (BadRow i)) = says (bad_row i)
answer_of (Ok (NotClosed i j)) = says (not_closed i j)
answer_of (Ok Accepted) = says accepted

-- The answer of the call, fault and all: the one for each table and list.
abbrev pub found : judgement.Judgement → Judgement
found no_start = NoStart
found (bad_row i) = BadRow i
found (not_closed i j) = NotClosed i j
found accepted = Accepted

-- To the rows in memory: where no earlier answer holds, and in all.
abbrev pub closed_answer : Option Open → Judgement
closed_answer None = Accepted
closed_answer (Some o) = NotClosed o.row o.transition

unfoldable pub judged_at : List ℕ → Shape → Rows → Judgement
judged_at t s m = found (judge (system_of t) (rows_in m))

-- To a list for a good table of that shape.
abbrev pub judge_for : List ℕ → Shape → List ℕ → ListChecked → Result Judgement Refused
judge_for t s list (Err r) = Err (refused_by.List r)
judge_for t s list (Ok n) = Ok (found (judge (system_of t) (rows_of s list)))

unfoldable pub judge_good : List ℕ → Shape → List ℕ → Result Judgement Refused
judge_good t s list = judge_for t s list (check_list s list)

abbrev pub judge_with : List ℕ → List ℕ → Result Shape table.Refusal → Result Judgement Refused
judge_with t list (Err r) = Err (refused_by.Table r)
judge_with t list (Ok s) = judge_good t s list

unfoldable pub judge_of : List ℕ → List ℕ → Result Judgement Refused
judge_of t list = judge_with t list (check_table t)

-- The promise of the call.
pub record Judges (t list : List ℕ) (r : Result Judgement Refused) : Type 0 where
  pub says : answer_of r ≡ judge_answer t list
  pub exact : r ≡ judge_of t list
