use Rattle.wording.proofs.StepLaws.{unsafe-written}
use Rattle.wording.proofs.steps.unsafe_text.Goals as goal

pub returns : goal.returns
returns c = unsafe-written _ _ _ _ _ _ _ _ _ c.write-next.ensures c.run_lines.ensures
