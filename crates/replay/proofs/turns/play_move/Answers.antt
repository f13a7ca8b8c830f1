-- By what its operation makes, where it starts in the present state.
use Rattle.std.proofs.Common.{arith}
use Rattle.replay.proofs.TurnLaws.{move-elsewhere, move-to, move-stuck}
use Rattle.replay.proofs.turns.play_move.Goals as goal

pub returns-then-state-transition : goal.returns-then-state-transition
returns-then-state-transition c = move-elsewhere _ _ _ _ c.if-state-transition.true

pub returns-then-operate : goal.returns-then-operate
returns-then-operate c = move-to _ _ _ _ c.operate.ensures (omega arith) c.if-operate.true

pub returns : goal.returns
returns c = move-stuck _ _ _ _ c.operate.ensures (omega arith) c.if-operate.false
