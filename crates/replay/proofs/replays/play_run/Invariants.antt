use Rattle.replay.proofs.PlayingLaws.{Playing}
use Rattle.replay.proofs.replays.play_run.Given as goal

abbrev pub invariant-loop-step : goal.invariant-loop-step
invariant-loop-step l = Playing l.table.bytes.now l.run l.memory l.state l.step
