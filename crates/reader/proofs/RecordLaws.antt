-- Records: what their tests say of the bytes.
use Rattle.std.proofs.Common.{◌≡◌, List, Some, ℕ, ◌+◌, ◌≤◌, length, refl, ◌∙◌, arith, length-take, length-drop}
use Rattle.common.proofs.ChoiceLaws.{lt-else, choices}
use Rattle.reader.specs.Bytes.{number_at}
use Rattle.reader.specs.Records.{record_of, record_at, part_of, payload_at}
use Rattle.reader.specs.declared.records.Record.{Record}

-- A payload whose bytes are there has its size.
pub part_length : (t : List ℕ) (at size : ℕ) → at + 4 + size ≤ length t → length (part_of t at size) ≡ size
unfolding part_of
part_length t at size h = simp (length-take, length-drop) (omega arith)

-- A record is whole where the bytes that its length asks for are there.
pub whole_is : (t : List ℕ) (at : ℕ) {kind size : ℕ} → at + 4 ≤ length t → at + 4 + size ≤ length t
    → kind ≡ number_at t (at + 2) → size ≡ number_at t at → Some (record_of at kind size) ≡ record_at t at
unfolding record_at
whole_is t at header there k s = rw (← k, ← s) (lt-else _ _ _ _ header (lt-else _ _ _ _ there refl))

-- A whole record's bytes are there, and the next record stands behind them.
pub record WholeAt (t : List ℕ) (at : ℕ) (r : Record) : Type 0 where
  pub kind_is : r.kind ≡ number_at t (at + 2)
  pub size_is : r.size ≡ number_at t at
  pub next_is : r.next ≡ at + 4 + r.size
  pub there : r.next ≤ length t

pub whole-at : (t : List ℕ) (at : ℕ) (r : Record) → Some r ≡ record_at t at → WholeAt t at r
unfolding record_at
whole-at t at r h = grind (arith, choices)

-- The payload of a whole record is its part.
pub payload-whole : (p t : List ℕ) (at : ℕ) (r : Record) → Some r ≡ record_at t at → p ≡ part_of t at r.size → p ≡ payload_at t at
unfolding payload_at
payload-whole p t at r e h = h ∙ rw (← e)
