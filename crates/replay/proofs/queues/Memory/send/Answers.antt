-- Each channel has had fewer than 2,048 messages, so there is room at the tail.
use Rattle.replay.proofs.QueueLaws.{done-send}
use Rattle.replay.proofs.queues.Memory.send.Goals as goal

pub returns : goal.returns
returns c = done-send _ _ _ c.requires.0 c.requires.2
