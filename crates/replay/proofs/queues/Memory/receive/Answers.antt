-- The head moves on by one, another message stands at the head, or nothing waits there.
use Rattle.std.proofs.Common.{◌∙◌, sym}
use Rattle.replay.proofs.QueueLaws.{done-receive, other-there, nothing-there}
use Rattle.replay.proofs.queues.Memory.receive.Goals as goal
use Rattle.replay.proofs.queues.Memory.receive.Goals.{else-head-tail-via-then-head-tail+else-from-message, else-head-tail-via-else-head-tail}

pub returns-then-from-message : goal.returns-then-from-message
returns-then-from-message c = done-receive _ _ _ c.requires.0 c.requires.1 c.if-head-tail.true (sym c.from.ensures ∙ c.if-from-message.true)

pub returns : goal.returns
returns c = elim c.else-head-tail.branch [
  | else-head-tail-via-then-head-tail+else-from-message w ↦
      other-there _ _ _ c.requires.0 c.requires.1 w.if-head-tail.true (λ e. w.if-from-message.false (w.from.ensures ∙ e))
  | else-head-tail-via-else-head-tail w ↦ nothing-there _ _ _ c.requires.0 c.requires.1 w.if-head-tail.false
]
