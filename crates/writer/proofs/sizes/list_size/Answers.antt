-- The invariant: the bytes of the records so far.
use Rattle.std.proofs.Common.{arith}
use Rattle.writer.proofs.SizeLaws.{list-sizing-starts, list-sizing-on, list-sizing-ends}
use Rattle.writer.proofs.sizes.list_size.Goals as goal

pub loop-i-init : goal.loop-i-init
loop-i-init c = list-sizing-starts _ _ _

pub loop-i-preserved : goal.loop-i-preserved
loop-i-preserved c =
    list-sizing-on c.loop-i.invariant (omega arith) _ (rw (c.row.ensures.0, c.row.ensures.1, c.row.ensures.2) at c.payload_size.ensures.value) c.payload_size.ensures.upper_bound

pub returns : goal.returns
returns c = list-sizing-ends c.loop-i.invariant (omega arith)
