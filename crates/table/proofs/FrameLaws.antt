-- The frame of a table record: what its tests say of the bytes.
use Rattle.std.proofs.Common.{Some, Ok, Err, ◌≡◌, ◌⊎◌, sym, List, ℕ, ◌+◌, ◌≤◌, arith, length}
use Rattle.common.proofs.ChoiceLaws.{choices}
use Rattle.reader.specs.Bytes.{number_at}
use Rattle.reader.specs.Records.{record_of, record_at, part_of, payload_at}
use Rattle.reader.proofs.RecordLaws.{part_length, whole_is}
use Rattle.table.specs.Checking.{framed_at}
use Rattle.table.specs.declared.faults.Fault.{Fault}

-- A record's frame passes: its kind, its length, and its bytes are there.
pub record Framed (t : List ℕ) (at kind size : ℕ) : Type 0 where
  pub kind_is : number_at t (at + 2) ≡ kind
  pub size_is : number_at t at ≡ size
  pub there : at + 4 + size ≤ length t

pub framed-passes : (t : List ℕ) (at kind size : ℕ) → framed_at t at kind size ≡ Ok tt → Framed t at kind size
unfolding framed_at
framed-passes t at kind size h = grind (arith, choices)

-- A record whose frame passes is whole, and the next stands behind its payload.
pub framed-whole : (t : List ℕ) (at kind size : ℕ) → Framed t at kind size → Some (record_of at kind size) ≡ record_at t at
framed-whole t at kind size f =
    let h : at + 4 + size ≤ length t = f.there in
    whole_is t at (omega arith) h (sym f.kind_is) (sym f.size_is)

-- What a frame tells of the payload: where it passes, it is the part of the frame's size, and has as many bytes.
pub framed_tells : (t : List ℕ) (at kind size : ℕ)
    → ((framed_at t at kind size ≡ Ok tt) × ((payload_at t at ≡ part_of t at size) × (length (part_of t at size) ≡ size)))
    ⊎ ((f : Fault) × (framed_at t at kind size ≡ Err f))
unfolding framed_at record_at payload_at
framed_tells t at kind size = grind (arith, choices, part_length)
