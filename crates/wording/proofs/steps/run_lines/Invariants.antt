use Rattle.table.specs.Systems.{system_of}
use Rattle.wording.proofs.StepLaws.{Telling}
use Rattle.wording.proofs.steps.run_lines.Given as goal

abbrev pub invariant-loop-word : goal.invariant-loop-word
invariant-loop-word l = Telling (system_of l.table.bytes.now) l.run l.initial.out l.at l.out l.next l.word-index
