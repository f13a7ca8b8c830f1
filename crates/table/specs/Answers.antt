-- The answer in the numbers that every caller sees: number, input and place of each refusal.
use Rattle.std.specs.Prelude.{List, ℕ, Result, Ok, Err}
use Rattle.common.specs.Refusal.{Refusal}
use Rattle.table.specs.Checking.{check_table}
use Rattle.table.specs.declared.faults.Fault.{Fault}
use Rattle.table.specs.declared.faults.Fault.TheVariants.{Cut, Kind, Length, Count, Field, Rising}
use Rattle.table.specs.declared.faults.Refusal as table
use Rattle.table.specs.declared.told.Told.{Told}
use Rattle.table.specs.declared.checks.Shape.{Shape}

-- The number of the refusal for a fault.
abbrev pub number_of : Fault → ℕ
number_of Cut = 1
number_of Kind = 2
number_of Length = 3
number_of (Field offset) = 4
number_of Rising = 5
number_of Count = 6

-- The place of a refusal for a wrong field: of its record's start and the field's offset in it, the start.
abbrev pub field_place : ℕ → ℕ → ℕ
field_place at offset = at

-- The place of the refusal for a fault of the record that starts at a place.
abbrev pub place_of : Fault → ℕ → ℕ
place_of Cut at = at
place_of Kind at = at
place_of Length at = at
place_of (Field offset) at = field_place at offset
place_of Rising at = at
place_of Count at = at

-- The refusal for a fault of the record that starts at a place. The table is input 0.
abbrev pub refusal_of : Fault → ℕ → Refusal
refusal_of f at = record { number = number_of f; input = 0; place = place_of f at }

-- The refusal that is told.
abbrev pub refusal_told : Told → Refusal
refusal_told t = record { number = t.number; input = t.input; place = t.place }

-- A good table's shape, or the refusal.
pub data Answer : Type 0 where
  good : Shape → Answer
  refused : Refusal → Answer

-- What an answer of the check says.
abbrev pub answer : Result Shape table.Refusal → Answer
answer (Ok s) = good s
answer (Err r) = refused (refusal_of r.fault r.at)

-- What the check of a table says.
unfoldable pub table_answer : List ℕ → Answer
table_answer t = answer (check_table t)
