use Rattle.std.proofs.Common.{arith}
use Rattle.work.proofs.AppendLaws.{appending-starts, appending-on}
use Rattle.work.proofs.appending.next_channels.Goals as goal

pub loop-c-init : goal.loop-c-init
loop-c-init c = appending-starts _ _ _ _ _

pub loop-c-preserved : goal.loop-c-preserved
loop-c-preserved c = appending-on _ _ _ _ _ _ _ _ c.loop-c.invariant (omega arith) (omega arith) (omega arith) (omega arith) c.next_channel.ensures
