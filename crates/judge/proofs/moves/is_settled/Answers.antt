use Rattle.judge.proofs.MoveLaws.{settled-impossible, settled-covered}
use Rattle.judge.proofs.moves.is_settled.Goals as goal

pub returns-in-None : goal.returns-in-None
returns-in-None c = settled-impossible _ _ _ c.requires.in_source _ _ c.outcome_into.ensures.buffer_after c.in-None.is

pub returns-in-Some : goal.returns-in-Some
returns-in-Some c = settled-covered _ _ _ c.requires.in_source _ _ c.outcome_into.ensures.buffer_after _ c.in-Some.is c.is_covered.ensures
