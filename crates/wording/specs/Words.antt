-- The fixed words of the program's output, as the bytes that stand for them in ASCII.
use Rattle.std.specs.Prelude.{List, ℕ}
use mathlib.Core.List as list
use Prim.Native.Char.{code}
use Prim.Native.String.{String, [], ◌∷◌}

-- The codes of a text's characters.
abbrev pub bytes_of : String → List ℕ
bytes_of [] = list.[]
bytes_of (c ∷ s) = list.◌∷◌ (code c) (bytes_of s)

abbrev pub safe_word : List ℕ
safe_word = bytes_of "safe rows "

abbrev pub unsafe_word : List ℕ
unsafe_word = bytes_of "unsafe rows "

abbrev pub steps_word : List ℕ
steps_word = bytes_of " steps "

abbrev pub rows_full_word : List ℕ
rows_full_word = bytes_of "rows full at "

abbrev pub atoms_full_word : List ℕ
atoms_full_word = bytes_of "atoms full at "

abbrev pub gap_word : List ℕ
gap_word = bytes_of " "

abbrev pub refused_word : List ℕ
refused_word = bytes_of "refused "

abbrev pub place_word : List ℕ
place_word = bytes_of " at "

abbrev pub too_long_word : List ℕ
too_long_word = bytes_of "too long"

abbrev pub kept_word : List ℕ
kept_word = bytes_of " kept"

abbrev pub lost_word : List ℕ
lost_word = bytes_of " lost"

abbrev pub receive_word : List ℕ
receive_word = bytes_of " receive"

abbrev pub quiet_word : List ℕ
quiet_word = bytes_of " quiet"

abbrev pub end_word : List ℕ
end_word = bytes_of "\n"

-- ---- the words of the programs that prove, judge and replay

abbrev pub bytes_word : List ℕ
bytes_word = bytes_of "list bytes "

abbrev pub accepted_word : List ℕ
accepted_word = bytes_of "accepted"

abbrev pub no_start_word : List ℕ
no_start_word = bytes_of "no start"

abbrev pub bad_row_word : List ℕ
bad_row_word = bytes_of "bad row "

abbrev pub not_closed_word : List ℕ
not_closed_word = bytes_of "not closed "

abbrev pub reaches_bad_word : List ℕ
reaches_bad_word = bytes_of "reaches bad "

abbrev pub stuck_word : List ℕ
stuck_word = bytes_of "stuck "

abbrev pub elsewhere_word : List ℕ
elsewhere_word = bytes_of "ends elsewhere "

abbrev pub no_run_word : List ℕ
no_run_word = bytes_of "no run at line "

abbrev pub input_word : List ℕ
input_word = bytes_of " input "

abbrev pub long_table_word : List ℕ
long_table_word = bytes_of "table too long"

abbrev pub long_list_word : List ℕ
long_list_word = bytes_of "list too long"

abbrev pub long_run_word : List ℕ
long_run_word = bytes_of "run too long"
