use Rattle.std.proofs.Common.{refl, arith}
use Rattle.common.proofs.ChoiceLaws.{lt-then}
use Rattle.writer.specs.Fitting.{channel_passes}
use Rattle.writer.proofs.FitLaws.{channel-passes}
use Rattle.writer.proofs.fitting.channel_passes.Goals as goal

pub returns-then-count-gt24 : goal.returns-then-count-gt24
unfolding channel_passes
returns-then-count-gt24 c = lt-then _ _ _ _ (omega arith) refl

pub returns : goal.returns
returns c = channel-passes _ _ _ _ _ (omega arith) (cc)
