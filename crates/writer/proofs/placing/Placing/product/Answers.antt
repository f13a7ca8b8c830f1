use Rattle.std.proofs.Common.{arith}
use Rattle.lists.specs.Format.{product_bytes}
use Rattle.writer.proofs.ManyLaws.{room-then, placed-then}
use Rattle.writer.proofs.placing.Placing.product.Goals as goal

pub bytes-requires : goal.bytes-requires
unfolding product_bytes
bytes-requires c = omega (arith, c.requires.room)

pub atoms-requires : goal.atoms-requires
unfolding product_bytes
atoms-requires c = room-then c.bytes.ensures _ c.requires.room

pub returns : goal.returns
unfolding product_bytes
returns c = placed-then c.bytes.ensures c.atoms.ensures
