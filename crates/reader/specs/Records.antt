-- Records: two-byte payload length, two-byte kind, payload.
use Rattle.std.specs.Prelude.{List, [], ℕ, ◌+◌, length, take, drop, Option, Some, None}
use Rattle.common.specs.Choice.{if_lt}
use Rattle.reader.specs.Bytes.{number_at}
use Rattle.reader.specs.declared.records.Record.{Record}

-- A record of a kind and a payload's length at a place. The next stands behind its payload.
abbrev pub record_of : ℕ → ℕ → ℕ → Record
record_of at kind size = record { kind = kind; size = size; next = at + 4 + size }

-- The record at a place: none, where the bytes end inside it; else its kind, its payload's length and the next record's place.
unfoldable pub record_at : List ℕ → ℕ → Option Record
record_at t at =
    if_lt (length t) (at + 4) None
    (if_lt (length t) (at + 4 + number_at t at) None
    (Some (record_of at (number_at t (at + 2)) (number_at t at))))

-- The payload of size bytes of the record at a place: those bytes of the table.
unfoldable pub part_of : List ℕ → ℕ → ℕ → List ℕ
part_of t at size = take size (drop (at + 4) t)

-- The payload of a record that was found at a place; where there is none, nothing.
abbrev pub payload_of : List ℕ → ℕ → Option Record → List ℕ
payload_of t at None = []
payload_of t at (Some r) = part_of t at r.size

-- The payload of the record at a place.
unfoldable pub payload_at : List ℕ → ℕ → List ℕ
payload_at t at = payload_of t at (record_at t at)
