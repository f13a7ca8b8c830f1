-- The answer in the numbers that every caller sees.
use Rattle.std.specs.Prelude.{List, ℕ, Ok, Err}
use Rattle.common.specs.Refusal.{Refusal}
use Rattle.table.specs.Answers.{number_of, place_of}
use Rattle.table.specs.declared.faults.Fault.{Fault}
use Rattle.table.specs.declared.checks.Shape.{Shape}
use Rattle.lists.specs.Reading.{ListChecked, check_list}

-- The refusal for a fault of the record that starts at a place. The list is input 1.
abbrev pub list_refusal : Fault → ℕ → Refusal
list_refusal f at = record { number = number_of f; input = 1; place = place_of f at }

-- A good list's number of rows, or the refusal.
pub data ListAnswer : Type 0 where
  good : ℕ → ListAnswer
  refused : Refusal → ListAnswer

-- What an answer of the reader says.
abbrev pub answer : ListChecked → ListAnswer
answer (Ok n) = good n
answer (Err r) = refused (list_refusal r.fault r.at)

-- What the reader says of a list.
unfoldable pub list_answer : Shape → List ℕ → ListAnswer
list_answer s t = answer (check_list s t)
