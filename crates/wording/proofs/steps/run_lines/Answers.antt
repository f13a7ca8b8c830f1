use Rattle.std.proofs.Common.{arith}
use Rattle.wording.proofs.StepLaws.{telling-starts, telling-on}
use Rattle.wording.proofs.steps.run_lines.Goals as goal

pub loop-word-init : goal.loop-word-init
loop-word-init c = telling-starts _ _ _ _ (omega arith)

pub loop-word-preserved : goal.loop-word-preserved
loop-word-preserved c = telling-on _ _ _ _ _ _ _ _ _ c.loop-word.invariant c.loop-word-test.true c.step_line-next.ensures
