use Rattle.std.proofs.Common.{arith, le-ltb}
use Rattle.common.proofs.ChoiceLaws.{lt-else}
use Rattle.writer.specs.Fitting.{row_passes}
use Rattle.writer.proofs.FitLaws.{row-passes}
use Rattle.writer.proofs.fitting.row_passes.Goals as goal

pub returns-then-state-s : goal.returns-then-state-s
returns-then-state-s c = row-passes _ _ _ _ _ c.state.ensures (omega arith) c.channels_pass.ensures

pub returns-else-state-s : goal.returns-else-state-s
unfolding row_passes
returns-else-state-s c = lt-else _ _ _ _ (omega arith) (le-ltb _ _ (omega arith))
