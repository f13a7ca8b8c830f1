use Rattle.std.proofs.Common.{arith}
use Rattle.steps.proofs.TextLaws.{found-within}
use Rattle.steps.proofs.RunLaws.{step-within, stepping-on}
use Rattle.steps.proofs.runs.read_steps.Goals as goal

pub overflow_cast-words : goal.overflow_cast-words
overflow_cast-words c = let w = found-within _ c.read_step.ensures 65536 1 _ _ c.in-Some.is (step-within _) in omega (arith, w.0)

pub bounds-words-i : goal.bounds-words-i
bounds-words-i c =
    let w = found-within _ c.read_step.ensures 65536 1 _ _ c.in-Some.is (step-within _) in
    omega (arith, w.1, c.loop-i.invariant.inside, c.loop-i.invariant.room)

pub loop-i-preserved : goal.loop-i-preserved
loop-i-preserved c = stepping-on _ _ _ _ _ _ c.loop-i.invariant _ c.read_step.ensures (omega arith) _ c.in-Some.is (omega arith)
