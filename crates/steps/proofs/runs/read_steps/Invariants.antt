use Rattle.steps.proofs.RunLaws.{Stepping}
use Rattle.steps.proofs.runs.read_steps.Given as goal

abbrev pub invariant-loop-i : goal.invariant-loop-i
invariant-loop-i l = Stepping l.text l.steps l.initial.words l.words l.rest l.i
