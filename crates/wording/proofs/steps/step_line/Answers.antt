-- The number, what became of its message, and the line's end.
use Rattle.wording.proofs.StepLaws.{step-written}
use Rattle.wording.proofs.steps.step_line.Goals as goal

pub returns : goal.returns
returns c = step-written _ _ _ _ _ _ _ _ _ _ _ _ c.from-step.ensures.0 c.from-step.ensures.1 c.write_number-next.ensures c.write_move-end.ensures c.write_bytes.ensures
