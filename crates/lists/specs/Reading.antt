-- The list reader: all that the rules say of a list, in the order of the tests. Fields are met in file order, and each is tested when it is met.
use Rattle.std.specs.Prelude.{List, [], ◌∷◌, ◌++◌, ℕ, zero, suc, ◌+◌, ◌-◌, length, get_or, Result, Ok, Err}
use Rattle.common.specs.Choice.{if_lt, if_eq, if_true}
use Rattle.atoms.specs.Masks.{atom_test}
use Rattle.rows.specs.Rows.{Row}
use Rattle.reader.specs.Bytes.{byte_at, number_at}
use Rattle.table.specs.declared.faults.Fault.{Fault}
use Rattle.table.specs.declared.faults.Fault.TheVariants.{Cut, Kind, Length, Count, Field}
use Rattle.table.specs.declared.faults.Refusal.{Refusal}
use Rattle.table.specs.declared.checks.Shape.{Shape}
use Rattle.lists.specs.declared.products.Frame.{Frame}

-- What reading finds: a thing and the place behind it, or a fault.
pub data Read (A : Type 0) : Type 0 where
  read : A → ℕ → Read A
  fails : Fault → Read A

-- What follows a thing that was read; else its fault.
abbrev pub and_then : {A B : Type 0} → Read A → (A → ℕ → Read B) → Read B
and_then (read x next) rest = rest x next
and_then (fails f) rest = fails f

-- Things that were read, with others before them.
abbrev pub behind : {A : Type 0} → List A → Read (List A) → Read (List A)
behind xs (read ys next) = read (xs ++ ys) next
behind xs (fails f) = fails f

-- So many things of one sort, one after the other, from a place on.
unfoldable pub read_many : {A : Type 0} → (ℕ → Read A) → ℕ → ℕ → Read (List A)
read_many one zero from = read [] from
read_many one (suc k) from = and_then (one from) (λ x next. behind (x ∷ []) (read_many one k next))

-- The atom at a place of a record: its two bytes there (3), and an atom of the table (4).
unfoldable pub read_atom : Frame → List ℕ → ℕ → Read ℕ
read_atom f t from =
    if_lt f.end (from + 2) (fails Length)
    (if_true (atom_test f.messages (number_at t from)) (read (number_at t from) (from + 2)) (fails (Field (from - f.at))))

-- The product at a place of a record: its count there (3), at most 24 (4), and its atoms.
unfoldable pub read_product : Frame → List ℕ → ℕ → Read (List ℕ)
read_product f t from =
    if_lt from f.end
    (if_lt 24 (byte_at t from) (fails (Field (from - f.at))) (read_many (read_atom f t) (byte_at t from) (from + 1)))
    (fails Length)

-- A row with its products; no atoms past them.
abbrev pub row_with : ℕ → List (List ℕ) → Row
row_with state ps = record { state = state; products = λ c. get_or ps c [] }

-- The frame of the record that starts at a place, its payload ending at another, for a table of that shape.
abbrev pub frame_of : Shape → ℕ → ℕ → Frame
frame_of s at end = record { at = at; end = end; messages = s.messages }

-- The row in a payload: its state there (3), a state of the table (4), a product for each channel, and no bytes over (3).
unfoldable pub read_payload : Shape → List ℕ → ℕ → ℕ → Read Row
read_payload s t at end =
    if_lt end (at + 6) (fails Length)
    (if_lt (number_at t (at + 4)) s.states
    (and_then (read_many (read_product (frame_of s at end) t) s.channels (at + 6))
    (λ ps next. if_lt next end (fails Length) (read (row_with (number_at t (at + 4)) ps) next)))
    (fails (Field 4)))

-- The tests that each record has, where i rows came before: four bytes there (1), kind (2), payload there (1), at most 1,024 rows (6).
unfoldable pub frame_at : List ℕ → ℕ → ℕ → Result ℕ Fault
frame_at t at i =
    if_lt (length t) (at + 4) (Err Cut)
    (if_eq (number_at t (at + 2)) 16
    (if_lt (length t) (at + 4 + number_at t at) (Err Cut)
    (if_lt i 1024 (Ok (at + 4 + number_at t at)) (Err Count)))
    (Err Kind))

-- What a frame decides, and the payload in it.
abbrev pub in_frame : Shape → List ℕ → ℕ → Result ℕ Fault → Read Row
in_frame s t at (Ok end) = read_payload s t at end
in_frame s t at (Err f) = fails f

-- The row whose record stands at a place, where i rows came before.
unfoldable pub read_row : Shape → List ℕ → ℕ → ℕ → Read Row
read_row s t at i = in_frame s t at (frame_at t at i)

-- What reading a list finds: its rows, or a fault and the start of the record that has it.
pub data ListRead : Type 0 where
  rows : List Row → ListRead
  refused : Fault → ℕ → ListRead

-- The rows of a list, with others before them.
abbrev pub rows_behind : List Row → ListRead → ListRead
rows_behind l (rows m) = rows (l ++ m)
rows_behind l (refused f at) = refused f at

-- The rows from a place on, where i rows came before. No list goes on past row number 1,024, so 1,025 turns are enough.
unfoldable pub read_rows : ℕ → Shape → List ℕ → ℕ → ℕ → ListRead
read_rows zero s t at i = rows []
read_rows (suc k) s t at i =
    if_lt at (length t)
    (elim (read_row s t at i) [ read r next ↦ rows_behind (r ∷ []) (read_rows k s t next (i + 1)) | fails f ↦ refused f at ])
    (rows [])

-- A list, read for a table of that shape.
unfoldable pub read_list : Shape → List ℕ → ListRead
read_list s t = read_rows 1025 s t 0 0

-- The answer to a list: how many rows it has, or the first fault and the start of the record that has it.
abbrev pub ListChecked : Type 0
ListChecked = Result ℕ Refusal

abbrev pub verdict : ListRead → ListChecked
verdict (rows l) = Ok (length l)
verdict (refused f at) = Err (record { fault = f; at = at })

-- The answer to a list: the one for each list of bytes.
unfoldable pub check_list : Shape → List ℕ → ListChecked
check_list s t = verdict (read_list s t)

-- The rows of a good list; of another none.
abbrev pub rows_in : ListRead → List Row
rows_in (rows l) = l
rows_in (refused f at) = []

unfoldable pub rows_of : Shape → List ℕ → List Row
rows_of s t = rows_in (read_list s t)
