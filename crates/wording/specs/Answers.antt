-- The lines of the programs that prove, judge and replay. Each ends in a newline.
use Rattle.std.specs.Prelude.{List, ◌++◌, ℕ}
use Rattle.wording.specs.Words.{bytes_word, accepted_word, no_start_word, bad_row_word, not_closed_word, gap_word, reaches_bad_word, stuck_word, elsewhere_word, no_run_word, refused_word, input_word, place_word, long_table_word, long_list_word, long_run_word, end_word}
use Rattle.wording.specs.Lines.{one_line, two_line, three_line, safe_line, unsafe_line, rows_full_line, atoms_full_line, refused_line, too_long_line}
use Rattle.wording.specs.declared.lines.Line.{Line}
use Rattle.wording.specs.declared.lines.Line.TheVariants.{Safe, Unsafe, RowsFull, AtomsFull, Refused, TooLong, ListBytes, Accepted, NoStart, BadRow, NotClosed, ReachesBad, Stuck, Elsewhere, NoRun, InputRefused, LongTable, LongList, LongRun}

abbrev pub bytes_line : ℕ → List ℕ
bytes_line bytes = one_line bytes_word bytes

abbrev pub accepted_line : List ℕ
accepted_line = accepted_word ++ end_word

abbrev pub no_start_line : List ℕ
no_start_line = no_start_word ++ end_word

abbrev pub bad_row_line : ℕ → List ℕ
bad_row_line row = one_line bad_row_word row

abbrev pub not_closed_line : ℕ → ℕ → List ℕ
not_closed_line row transition = two_line not_closed_word row gap_word transition

abbrev pub reaches_bad_line : ℕ → List ℕ
reaches_bad_line steps = one_line reaches_bad_word steps

abbrev pub stuck_line : ℕ → List ℕ
stuck_line step = one_line stuck_word step

abbrev pub elsewhere_line : ℕ → List ℕ
elsewhere_line state = one_line elsewhere_word state

-- The first line of a text that is not one of a run's.
abbrev pub no_run_line : ℕ → List ℕ
no_run_line line = one_line no_run_word line

-- A refusal that says its input too.
abbrev pub refusal_line : ℕ → ℕ → ℕ → List ℕ
refusal_line number input place = three_line refused_word number input_word input place_word place

abbrev pub long_table_line : List ℕ
long_table_line = long_table_word ++ end_word

abbrev pub long_list_line : List ℕ
long_list_line = long_list_word ++ end_word

abbrev pub long_run_line : List ℕ
long_run_line = long_run_word ++ end_word

-- The text of a line.
abbrev pub text_of : Line → List ℕ
text_of (Safe rows) = safe_line rows
text_of (Unsafe rows steps) = unsafe_line rows steps
text_of (RowsFull row transition) = rows_full_line row transition
text_of (AtomsFull row transition) = atoms_full_line row transition
text_of (Refused number place) = refused_line number place
text_of TooLong = too_long_line
text_of (ListBytes bytes) = bytes_line bytes
text_of Accepted = accepted_line
text_of NoStart = no_start_line
text_of (BadRow row) = bad_row_line row
text_of (NotClosed row transition) = not_closed_line row transition
text_of (ReachesBad steps) = reaches_bad_line steps
text_of (Stuck step) = stuck_line step
text_of (Elsewhere state) = elsewhere_line state
text_of (NoRun line) = no_run_line line
text_of (InputRefused number input place) = refusal_line number input place
text_of LongTable = long_table_line
text_of LongList = long_list_line
text_of LongRun = long_run_line
