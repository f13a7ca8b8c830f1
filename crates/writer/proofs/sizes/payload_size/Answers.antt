-- The invariant: the bytes of the products so far.
use Rattle.std.proofs.Common.{arith}
use Rattle.writer.proofs.SizeLaws.{sizing-starts, sizing-on, sizing-ends}
use Rattle.writer.proofs.sizes.payload_size.Goals as goal

pub loop-c-init : goal.loop-c-init
loop-c-init c = sizing-starts _ _ _

pub loop-c-preserved : goal.loop-c-preserved
loop-c-preserved c = sizing-on c.loop-c.invariant c.args.fit.now.fits (omega arith) _ c.count-atoms.ensures

pub returns-clause-value : goal.returns-clause-value
returns-clause-value c = sizing-ends c.loop-c.invariant (omega arith)
