use Rattle.std.proofs.Common.{arith}
use Rattle.steps.proofs.TextLaws.{found-within, number-within}
use Rattle.steps.proofs.runs.read_step.Goals as goal

pub read_ending-requires : goal.read_ending-requires
read_ending-requires c = let w = found-within _ c.read_number.ensures _ _ _ _ c.in_ok-number.was (number-within _) in omega (arith, w.0)
