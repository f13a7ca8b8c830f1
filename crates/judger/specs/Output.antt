-- What the program writes for the bytes of a table and the bytes of a list.
use Rattle.std.specs.Prelude.{List, ℕ, length}
use Rattle.common.specs.Choice.{if_lt}
use Rattle.judgement.specs.Judge.{accepted, no_start, bad_row, not_closed}
use Rattle.judge.specs.Judging.{JudgeAnswer, refused, says, judge_answer}
use Rattle.wording.specs.Answers.{accepted_line, no_start_line, bad_row_line, not_closed_line, refusal_line, long_table_line, long_list_line}

-- The line of an answer of the judge.
abbrev pub line_of : JudgeAnswer → List ℕ
line_of (refused r) = refusal_line r.number r.input r.place
line_of (says accepted) = accepted_line
line_of (says no_start) = no_start_line
line_of (says (bad_row row)) = bad_row_line row
line_of (says (not_closed row transition)) = not_closed_line row transition

-- The whole output. The longest legal table has 36,874 bytes; the longest legal list has 1,024 rows of 202 bytes.
unfoldable pub output_of : List ℕ → List ℕ → List ℕ
output_of t list = if_lt 36874 (length t) long_table_line (if_lt 206848 (length list) long_list_line (line_of (judge_answer t list)))
