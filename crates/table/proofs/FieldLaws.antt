-- Fields that pass: the ranges that they are in.
use Rattle.std.proofs.Common.{Ok, ◌≡◌, ℕ, ◌+◌, ◌<◌, ◌≤◌, arith}
use Rattle.common.proofs.ChoiceLaws.{choices}
use Rattle.meaning.specs.Systems.{Ranged}
use Rattle.table.specs.Fields.{header_fields, operation_fields, transition_fields, bad_fields}
use Rattle.table.specs.Transitions.{operation_from, operation_of}
use Rattle.table.specs.declared.fields.Header.{Header}
use Rattle.table.specs.declared.fields.Entry.{Entry}

-- A header in range.
pub record HeaderOk (h : Header) : Type 0 where
  pub some_state : 1 ≤ h.states
  pub states : h.states ≤ 4096
  pub some_channel : 1 ≤ h.channels
  pub channels : h.channels ≤ 4
  pub some_message : 1 ≤ h.messages
  pub messages : h.messages ≤ 15
  pub start : h.start < h.states

pub header_ok : (h h' : Header) → header_fields h ≡ Ok h' → (h ≡ h') × HeaderOk h
unfolding header_fields
header_ok h h' e = grind (arith, choices)

-- A transition's numbers in range; its operation as the meaning asks it.
pub record EntryOk (h : Header) (e : Entry) : Type 0 where
  pub source : e.source < h.states
  pub target : e.target < h.states
  pub operation : Ranged h.channels h.messages (operation_of (operation_from e))

-- An operation that passes is in range: it is quiet, or its channel and message are.
pub operation-ok : (h : Header) (e : Entry) → operation_fields h e ≡ Ok tt → Ranged h.channels h.messages (operation_of (operation_from e))
unfolding operation_fields operation_from
operation-ok h e p = grind (arith, choices)

pub entry-ok : (h : Header) (e : Entry) → transition_fields h e ≡ Ok tt → EntryOk h e
unfolding transition_fields
entry-ok h e p = grind (arith, choices, operation-ok)

-- A bad state in range, not below the lowest that may stand there, and the lowest that may follow.
pub record BadOk (b states low next : ℕ) : Type 0 where
  pub state : b < states
  pub above : low ≤ b
  pub next_is : next ≡ b + 1

pub bad-ok : (state states low next : ℕ) → bad_fields state states low ≡ Ok next → BadOk state states low next
unfolding bad_fields
bad-ok state states low next p = grind (arith, choices)
