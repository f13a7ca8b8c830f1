-- What the program writes for the bytes of a table: a text, and a list where the table is safe.
use Rattle.std.specs.Prelude.{◌≡◌, List, ◌++◌, ℕ, ◌≤◌, length, Option, Some, None, IfSome, Ok, Err}
use Rattle.common.specs.Choice.{if_lt}
use Rattle.common.specs.Front.{front}
use Rattle.table.specs.Systems.{system_of}
use Rattle.work.specs.Layout.{all_words}
use Rattle.search.specs.Searching.{Answer, Result, search_of}
use Rattle.search.specs.declared.searches.Verdict.TheVariants.{Safe, Unsafe, RowsFull, AtomsFull}
use Rattle.writer.specs.Writing as writer
use Rattle.writer.specs.Writing.{written, bytes_of, left_by}
use Rattle.writer.specs.Answers.{WriteAnswer, bytes, refused, answer}
use Rattle.wording.specs.Lines.{safe_line}
use Rattle.wording.specs.Answers.{bytes_line, refusal_line, long_table_line}
use Rattle.wording.specs.Steps.{answer_text}
use Rattle.wording.specs.Written.{Written}
use Rattle.verdicts.specs.Said.{said_by}
use Rattle.prover.specs.declared.answers.Output.{Output}

-- The rows of a safe table.
abbrev pub safe_rows : Answer → Option ℕ
safe_rows (Ok (Safe rows)) = Some rows
safe_rows (Ok (Unsafe rows steps)) = None
safe_rows (Ok (RowsFull rows row transition)) = None
safe_rows (Ok (AtomsFull rows row transition)) = None
safe_rows (Err e) = None

-- What is said of the list: its bytes, or the writer's refusal.
abbrev pub list_line : WriteAnswer → List ℕ
list_line (bytes n) = bytes_line n
list_line (refused r) = refusal_line r.number r.input r.place

-- How many bytes of the list are to be written to its file, if any.
abbrev pub list_size : WriteAnswer → Option ℕ
list_size (bytes n) = Some n
list_size (refused r) = None

-- A text, the size of the list where there is one, and the list's bytes in lent memory.
pub record Made : Type 0 where
  pub text : List ℕ
  pub size : Option ℕ
  pub list : List ℕ

-- A text alone.
abbrev pub only_text : List ℕ → List ℕ → Made
only_text text old = record { text = text; size = None; list = old }

-- For so many rows of a safe table, by the writer's answer and the list that it writes.
abbrev pub listed : writer.Written → List ℕ → ℕ → List ℕ → Made
listed a list rows old = record { text = safe_line rows ++ list_line (answer a); size = list_size (answer a); list = left_by a list old }

-- By what the search finds; w are the words of the work table before it. The list has 206,848 bytes of room: 1,024 rows of 202.
abbrev pub made_by : (t w old : List ℕ) → Result → Option ℕ → Made
made_by t w old x (Some rows) =
    listed (written t (front (all_words x.rows) w) rows 206848) (bytes_of t (front (all_words x.rows) w) rows) rows old
made_by t w old x None = only_text (answer_text (system_of t) (said_by x.answer x.run)) old

-- What the search finds of a table with room for 1,024 rows: 105,472 work words and 2,048 run words.
unfoldable pub searched : List ℕ → Result
searched t = search_of t 105472 2048

unfoldable pub found : (t w old : List ℕ) → Made
found t w old = made_by t w old (searched t) (safe_rows (searched t).answer)

-- All of it: the longest legal table has 36,874 bytes.
unfoldable pub made : (t w old : List ℕ) → Made
made t w old = if_lt 36874 (length t) (only_text long_table_line old) (found t w old)

-- ---- what a call says

-- The line of the list stands from place a on, and the list's size is told.
pub record Tells (w : WriteAnswer) (l : List ℕ) (a : ℕ) (m : List ℕ) (r : Output) : Type 0 where
  pub written : Written l a (list_line w) m r.text
  pub size : r.list ≡ list_size w

-- The text stands in the buffer, the list in its own, and the list's size is told.
pub record Makes (x : Made) (l m list : List ℕ) (r : Output) : Type 0 where
  pub written : Written l 0 x.text m r.text
  pub size : r.list ≡ x.size
  pub held : list ≡ x.list

-- The bytes that are told are there.
abbrev pub Inside : Output → List ℕ → List ℕ → Type 0
Inside r list out = (r.text ≤ length out) × IfSome r.list (λ k. k ≤ length list)
