-- Transition i of a table as a value, and the move that it is.
use Rattle.std.specs.Prelude.{List, ℕ}
use Rattle.common.specs.Choice.{if_eq}
use Rattle.meaning.specs.Systems as meaning
use Rattle.reader.specs.Records.{part_of}
use Rattle.table.specs.Fields.{entry_of}
use Rattle.table.specs.Checking.{transition_place}
use Rattle.table.specs.declared.fields.Entry.{Entry}
use Rattle.table.specs.declared.transitions.Operation.{Operation}
use Rattle.table.specs.declared.transitions.Operation.TheVariants.{Quiet, Send, Receive}
use Rattle.table.specs.declared.transitions.Transition.{Transition}

-- The operation that a transition's numbers name: 0 quiet, 1 send; any other is taken as 2, receive.
unfoldable pub operation_from : Entry → Operation
operation_from e =
    if_eq e.operation 0 Quiet
    (if_eq e.operation 1 (Send e.channel e.message) (Receive e.channel e.message))

-- The transition that its numbers name.
abbrev pub transition_of : Entry → Transition
transition_of e = record { source = e.source; target = e.target; operation = operation_from e; label = e.label }

-- The numbers of transition i, at their fixed place.
abbrev pub entry_at : List ℕ → ℕ → Entry
entry_at t i = entry_of (part_of t (transition_place i) 8)

-- Transition i.
unfoldable pub transition_at : List ℕ → ℕ → Transition
transition_at t i = transition_of (entry_at t i)

-- The operation as the meaning has it.
abbrev pub operation_of : Operation → meaning.Operation
operation_of Quiet = meaning.quiet
operation_of (Send c m) = meaning.send c m
operation_of (Receive c m) = meaning.receive c m

-- The move that a transition is. Its label is free and means nothing.
abbrev pub move_of : Transition → meaning.Move
move_of r = record { source = r.source; target = r.target; operation = operation_of r.operation }
