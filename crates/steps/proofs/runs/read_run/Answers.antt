use Rattle.std.proofs.Common.{arith}
use Rattle.steps.proofs.TextLaws.{found-within}
use Rattle.steps.proofs.RunLaws.{first-within}
use Rattle.steps.proofs.runs.read_run.Goals as goal

pub read_steps-requires : goal.read_steps-requires
read_steps-requires c =
    let w = found-within _ c.read_first.ensures 32768 0 _ _ c.in_ok-first.ensures.ok_part (first-within _) in
    (omega (arith, w.1), omega (arith, w.0))
