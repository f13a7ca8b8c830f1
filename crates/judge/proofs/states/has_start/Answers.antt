use Rattle.std.proofs.Common.{◌∙◌}
use Rattle.judge.proofs.StateLaws.{start_any}
use Rattle.judge.proofs.states.has_start.Goals as goal

pub returns : goal.returns
returns c = c.contains.ensures.value ∙ start_any _ _
