use Rattle.replayer.proofs.OutputLaws.{a-run}
use Rattle.replayer.proofs.answers.write_told.Goals as goal

pub returns-in-Ok : goal.returns-in-Ok
returns-in-Ok c = a-run _ _ _ _ _ _ _ c.read_run.ensures _ _ c.in-Ok.is c.replay.ensures c.write_line.ensures
