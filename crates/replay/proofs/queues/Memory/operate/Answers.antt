-- Known by its case, an operation is done by the function for it; a marked one changes nothing.
use Rattle.replay.proofs.QueueLaws.{done-quiet, done-lost}
use Rattle.replay.proofs.queues.Memory.operate.Goals as goal

pub returns-then-gone : goal.returns-then-gone
returns-then-gone c = done-lost _ _ _ _ c.if-gone.true c.can_lose.ensures

pub returns-in-Quiet : goal.returns-in-Quiet
returns-in-Quiet c = rw (c.in-Quiet.is, c.if-gone.false) (done-quiet _)
