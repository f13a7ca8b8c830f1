-- The answer of the writer, and what it leaves in the list's bytes.
use Rattle.std.specs.Prelude.{List, [], ℕ, length, Option, Some, None, Result, Ok, Err}
use Rattle.common.specs.Choice.{if_lt}
use Rattle.common.specs.Front.{front}
use Rattle.table.specs.Checking.{check_table}
use Rattle.table.specs.declared.faults.Refusal.{Refusal}
use Rattle.table.specs.declared.checks.Shape.{Shape}
use Rattle.work.specs.Room.{room_of}
use Rattle.lists.specs.Format.{list_bytes}
use Rattle.writer.specs.Words.{rows_in}
use Rattle.writer.specs.Fitting.{first_not, row_passes}
use Rattle.writer.specs.declared.calls.Refused.{Refused}
use Rattle.writer.specs.declared.calls.Refused.TheVariants.{Table, BadRow, TooSmall}

-- How many bytes the list has, or why it is not written.
abbrev pub Written : Type 0
Written = Result ℕ Refused

-- The list of the first rows, for a table of that shape.
abbrev pub bytes_for : Shape → List ℕ → ℕ → List ℕ
bytes_for s w rows = list_bytes s.channels (rows_in s.channels w rows)

-- What the look for a row that cannot be written decides, and then whether the list fits into so many bytes.
abbrev pub after_look : List ℕ → ℕ → Option ℕ → Written
after_look bytes size (Some i) = Err (BadRow i)
after_look bytes size None = if_lt size (length bytes) (Err (TooSmall (length bytes))) (Ok (length bytes))

-- The answer for a table of that shape: the count against the room, then the rows, then the list's length.
unfoldable pub written_for : Shape → List ℕ → ℕ → ℕ → Written
written_for s w rows size =
    if_lt (room_of (length w)) rows (Err (BadRow (room_of (length w))))
    (after_look (bytes_for s w rows) size (first_not (row_passes s w) rows 0))

-- The table's refusal comes first.
abbrev pub written_with : List ℕ → ℕ → ℕ → Result Shape Refusal → Written
written_with w rows size (Err r) = Err (Table r)
written_with w rows size (Ok s) = written_for s w rows size

-- The answer: the one for each table, work table, count and length of the list's bytes.
unfoldable pub written : List ℕ → List ℕ → ℕ → ℕ → Written
written t w rows size = written_with w rows size (check_table t)

-- The list for an answer of the table check; a refused table has none.
abbrev pub bytes_with : List ℕ → ℕ → Result Shape Refusal → List ℕ
bytes_with w rows (Err r) = []
bytes_with w rows (Ok s) = bytes_for s w rows

unfoldable pub bytes_of : List ℕ → List ℕ → ℕ → List ℕ
bytes_of t w rows = bytes_with w rows (check_table t)

-- What is left in the list's bytes: the list in the first of them where it was written, all other bytes as they were.
abbrev pub left_by : Written → List ℕ → List ℕ → List ℕ
left_by (Ok n) bytes old = front bytes old
left_by (Err r) bytes old = old
