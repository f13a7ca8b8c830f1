-- The numbers of a header and of a transition, and their ranges, tested in the order of the fields. A wrong field is told by its
-- offset from the record's start: the payload starts at 4.
use Rattle.std.specs.Prelude.{List, ℕ, ◌+◌, Result, Ok, Err}
use Rattle.common.specs.Choice.{if_lt, if_eq}
use Rattle.reader.specs.Bytes.{byte_at, number_at}
use Rattle.table.specs.declared.faults.Fault.{Fault}
use Rattle.table.specs.declared.faults.Fault.TheVariants.{Field, Rising}
use Rattle.table.specs.declared.fields.Header.{Header}
use Rattle.table.specs.declared.fields.Entry.{Entry}

-- states u16, channels u8, messages u8, start state u16
unfoldable pub header_of : List ℕ → Header
header_of p = record { states = number_at p 0; channels = byte_at p 2; messages = byte_at p 3; start = number_at p 4 }

-- source u16, target u16, operation u8, channel u8, message u8, label u8
unfoldable pub entry_of : List ℕ → Entry
entry_of p = record
    { source = number_at p 0; target = number_at p 2; operation = byte_at p 4; channel = byte_at p 5; message = byte_at p 6; label = byte_at p 7 }

-- 1 to 4,096 states, 1 to 4 channels, 1 to 15 messages, and the start is a state.
unfoldable pub header_fields : Header → Result Header Fault
header_fields h =
    if_lt h.states 1 (Err (Field 4))
    (if_lt 4096 h.states (Err (Field 4))
    (if_lt h.channels 1 (Err (Field 6))
    (if_lt 4 h.channels (Err (Field 6))
    (if_lt h.messages 1 (Err (Field 7))
    (if_lt 15 h.messages (Err (Field 7))
    (if_lt h.start h.states (Ok h) (Err (Field 8))))))))

-- The operation is 0, 1 or 2; a quiet one (0) has channel 0 and message 0, any other a channel and a message of the header's.
unfoldable pub operation_fields : Header → Entry → Result (Unit {0}) Fault
operation_fields h e =
    if_lt 2 e.operation (Err (Field 8))
    (if_eq e.operation 0
    (if_eq e.channel 0 (if_eq e.message 0 (Ok tt) (Err (Field 10))) (Err (Field 9)))
    (if_lt e.channel h.channels (if_lt e.message h.messages (Ok tt) (Err (Field 10))) (Err (Field 9))))

-- Source and target are states, then the operation.
unfoldable pub transition_fields : Header → Entry → Result (Unit {0}) Fault
transition_fields h e =
    if_lt e.source h.states
    (if_lt e.target h.states (operation_fields h e) (Err (Field 6)))
    (Err (Field 4))

-- A bad state is a state, and not below the lowest that may stand there; the next is above it.
unfoldable pub bad_fields : ℕ → ℕ → ℕ → Result ℕ Fault
bad_fields state states low =
    if_lt state states (if_lt state low (Err Rising) (Ok (state + 1))) (Err (Field 4))
