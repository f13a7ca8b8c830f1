-- The table check: all that the rules say of a table, its records, their order and the order of the tests.
use Rattle.std.specs.Prelude.{Bool, true, false, List, ℕ, zero, suc, ◌+◌, ◌*◌, length, Option, Some, None, Result, Ok, Err}
use Rattle.common.specs.Choice.{if_lt, if_eq}
use Rattle.reader.specs.Bytes.{number_at}
use Rattle.reader.specs.Records.{part_of}
use Rattle.table.specs.Fields.{header_of, entry_of, header_fields, transition_fields, bad_fields}
use Rattle.table.specs.declared.faults.Fault.{Fault}
use Rattle.table.specs.declared.faults.Fault.TheVariants.{Cut, Kind, Length, Count}
use Rattle.table.specs.declared.faults.Refusal.{Refusal}
use Rattle.table.specs.declared.fields.Header.{Header}
use Rattle.table.specs.declared.checks.Kind as kinds
use Rattle.table.specs.declared.checks.Kind.TheVariants as kind
use Rattle.table.specs.declared.checks.Shape.{Shape}

-- The number of a kind of record, and the size of its payload.
abbrev pub kind_number : kinds.Kind → ℕ
kind_number kind.Header = 1
kind_number kind.Transition = 2
kind_number kind.Bad = 3

abbrev pub payload_size : kinds.Kind → ℕ
payload_size kind.Header = 6
payload_size kind.Transition = 8
payload_size kind.Bad = 2

-- Where transition i's record stands.
abbrev pub transition_place : ℕ → ℕ
transition_place i = 10 + 12 * i

-- Where bad state i's record stands, of a table with n transitions.
abbrev pub bad_place : ℕ → ℕ → ℕ
bad_place n i = 10 + 12 * n + 6 * i

-- The tests that each record has, for its kind and its payload's size: four bytes there, kind, length, payload there.
unfoldable pub framed_at : List ℕ → ℕ → ℕ → ℕ → Result (Unit {0}) Fault
framed_at t at kind size =
    if_lt (length t) (at + 4) (Err Cut)
    (if_eq (number_at t (at + 2)) kind
    (if_eq (number_at t at) size
    (if_lt (length t) (at + 4 + size) (Err Cut) (Ok tt))
    (Err Length))
    (Err Kind))

-- The number of the kind of the record at a place; none where its four bytes are not there.
unfoldable pub kind_at : List ℕ → ℕ → Option ℕ
kind_at t at = if_lt (length t) (at + 4) None (Some (number_at t (at + 2)))

-- What follows a test of a record, where it passes; else its fault.
abbrev pub and_then : {A : Type 0} → Result (Unit {0}) Fault → Result A Fault → Result A Fault
and_then (Ok passed) next = next
and_then (Err f) next = Err f

-- The header: a record of kind 1 at place 0, and its fields.
unfoldable pub read_header : List ℕ → Result Header Fault
read_header t = and_then (framed_at t 0 1 6) (header_fields (header_of (part_of t 0 6)))

-- A bad state ends the transitions: where the kind is 3, none stands there; else what is next decides.
abbrev pub unless_bad : Option ℕ → Result Bool Fault → Result Bool Fault
unless_bad None next = next
unless_bad (Some kind) next = if_eq kind 3 (Ok false) next

-- Whether a transition stands at a place where number i may stand, and no bad state: then it has kind 2, is at most number 1,024, and has its fields.
unfoldable pub transition_step : List ℕ → Header → ℕ → ℕ → Result Bool Fault
transition_step t h at i =
    unless_bad (kind_at t at)
    (and_then (framed_at t at 2 8)
    (if_lt i 1024 (and_then (transition_fields h (entry_of (part_of t at 8))) (Ok true)) (Err Count)))

-- The transitions from number i on: how many there are in all, or the first fault. No table goes on past number 1,024, so 1,025 turns are enough.
unfoldable pub scan_transitions : ℕ → List ℕ → Header → ℕ → Result ℕ Refusal
scan_transitions zero t h i = Ok i
scan_transitions (suc k) t h i =
    if_lt (transition_place i) (length t)
    (elim (transition_step t h (transition_place i) i) [
      | Ok true ↦ scan_transitions k t h (i + 1)
      | Ok false ↦ Ok i
      | Err f ↦ Err (record { fault = f; at = transition_place i })
    ])
    (Ok i)

-- The record at a place where a bad state not below low must stand: kind 3, and its field.
unfoldable pub bad_step : List ℕ → ℕ → ℕ → ℕ → Result ℕ Fault
bad_step t states at low =
    and_then (framed_at t at 3 2) (bad_fields (number_at (part_of t at 2) 0) states low)

-- The bad states from number i on, where the first of all stands at a place: how many there are in all, or the first fault.
-- Each takes some bytes, so as many turns as there are bytes are enough.
unfoldable pub scan_bads : ℕ → List ℕ → ℕ → ℕ → ℕ → ℕ → Result ℕ Refusal
scan_bads zero t states from i low = Ok i
scan_bads (suc k) t states from i low =
    if_lt (from + 6 * i) (length t)
    (elim (bad_step t states (from + 6 * i) low) [
      | Ok next ↦ scan_bads k t states from (i + 1) next
      | Err f ↦ Err (record { fault = f; at = from + 6 * i })
    ])
    (Ok i)

-- The shape of a table with a header, n transitions and k bad states.
abbrev pub shape_of : Header → ℕ → ℕ → Shape
shape_of h n k = record
    { states = h.states; channels = h.channels; messages = h.messages; start = h.start; transitions = n; bads = k }

-- What the bad states decide, behind n transitions.
abbrev pub after_bads : Header → ℕ → Result ℕ Refusal → Result Shape Refusal
after_bads h n (Ok k) = Ok (shape_of h n k)
after_bads h n (Err r) = Err r

-- What the transitions decide, and the bad states behind them.
abbrev pub after_transitions : List ℕ → Header → Result ℕ Refusal → Result Shape Refusal
after_transitions t h (Ok n) = after_bads h n (scan_bads (length t) t h.states (transition_place n) 0 0)
after_transitions t h (Err r) = Err r

-- What follows a header.
unfoldable pub check_rest : List ℕ → Header → Result Shape Refusal
check_rest t h = after_transitions t h (scan_transitions 1025 t h 0)

-- What the header decides, and the rest behind it.
abbrev pub after_header : List ℕ → Result Header Fault → Result Shape Refusal
after_header t (Ok h) = check_rest t h
after_header t (Err f) = Err (record { fault = f; at = 0 })

-- The answer to a table: the one for each list of bytes.
unfoldable pub check_table : List ℕ → Result Shape Refusal
check_table t = after_header t (read_header t)
