use Rattle.writer.proofs.ManyLaws.{room-first, room-then, placed-then}
use Rattle.writer.proofs.SizeLaws.{payload-is}
use Rattle.writer.proofs.placing.Placing.payload.Goals as goal

pub number-requires : goal.number-requires
number-requires c = rw c.state.ensures (room-first _ _ c.args.self.now (rw payload-is at c.requires))

pub products-requires : goal.products-requires
products-requires c = room-then (rw c.state.ensures at c.number.ensures) _ (rw payload-is at c.requires)

pub returns : goal.returns
returns c = rw payload-is (placed-then (rw c.state.ensures at c.number.ensures) c.products.ensures)
