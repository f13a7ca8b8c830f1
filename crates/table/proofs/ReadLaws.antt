-- One record that the check went past: what it read there.
use Rattle.std.proofs.Common.{true, Ok, ◌≡◌, List, ℕ, ◌<◌, arith}
use Rattle.common.proofs.ChoiceLaws.{choices}
use Rattle.reader.specs.Bytes.{number_at}
use Rattle.reader.specs.Records.{part_of}
use Rattle.table.specs.Fields.{header_of, entry_of}
use Rattle.table.specs.Checking.{read_header, transition_step, bad_step}
use Rattle.table.proofs.FrameLaws.{Framed, framed-passes}
use Rattle.table.proofs.FieldLaws.{HeaderOk, header_ok, EntryOk, entry-ok, BadOk, bad-ok}
use Rattle.table.specs.declared.fields.Header.{Header}

-- The header that was read is the one whose bytes stand there, in range.
pub record HeaderRead (t : List ℕ) (h : Header) : Type 0 where
  pub framed : Framed t 0 1 6
  pub bytes : h ≡ header_of (part_of t 0 6)
  pub ok : HeaderOk h

pub header_read : (t : List ℕ) (h : Header) → read_header t ≡ Ok h → HeaderRead t h
unfolding read_header
header_read t h e = grind (arith, choices, framed-passes, header_ok)

-- A transition: its frame, its number and its fields.
pub record TransitionRead (t : List ℕ) (h : Header) (at i : ℕ) : Type 0 where
  pub framed : Framed t at 2 8
  pub few : i < 1024
  pub ok : EntryOk h (entry_of (part_of t at 8))

pub transition-read : (t : List ℕ) (h : Header) (at i : ℕ) → transition_step t h at i ≡ Ok true → TransitionRead t h at i
unfolding transition_step
transition-read t h at i e = grind (arith, choices, framed-passes, entry-ok)

-- A bad state: its frame and its field.
pub record BadRead (t : List ℕ) (states at low next : ℕ) : Type 0 where
  pub framed : Framed t at 3 2
  pub ok : BadOk (number_at (part_of t at 2) 0) states low next

pub bad-read : (t : List ℕ) (states at low next : ℕ) → bad_step t states at low ≡ Ok next → BadRead t states at low next
unfolding bad_step
bad-read t states at low next e = grind (arith, choices, framed-passes, bad-ok)
