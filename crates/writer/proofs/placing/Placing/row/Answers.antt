use Rattle.lists.specs.Format.{row_bytes}
use Rattle.writer.proofs.ManyLaws.{room-first, room-then, placed-then}
use Rattle.writer.proofs.placing.Placing.row.Goals as goal

pub number-requires : goal.number-requires
unfolding row_bytes
number-requires c = rw c.payload_size.ensures.value (room-first _ _ c.args.self.now c.requires)

pub number-requires-2 : goal.number-requires-2
unfolding row_bytes
number-requires-2 c = room-first _ _ c.number.new.self (room-then (rw c.payload_size.ensures.value at c.number.ensures) _ c.requires)

pub payload-requires : goal.payload-requires
unfolding row_bytes
payload-requires c = room-then c.number-2.ensures _ (room-then (rw c.payload_size.ensures.value at c.number.ensures) _ c.requires)

pub returns : goal.returns
unfolding row_bytes
returns c = placed-then (rw c.payload_size.ensures.value at c.number.ensures) (placed-then c.number-2.ensures c.payload.ensures)
