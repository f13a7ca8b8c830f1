use Rattle.std.proofs.Common.{arith}
use Rattle.lists.proofs.BackLaws.{number-length}
use Rattle.writer.proofs.PlaceLaws.{number-is}
use Rattle.writer.proofs.placing.Placing.number.Goals as goal

pub bytes-requires : goal.bytes-requires
bytes-requires c = omega (arith, number-length c.args.n)

pub returns : goal.returns
returns c = rw (c.to_le_bytes.ensures, number-is c.args.n (omega arith)) at c.bytes.ensures
