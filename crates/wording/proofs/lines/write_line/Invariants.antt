use Rattle.wording.proofs.LineLaws.{Lining}
use Rattle.wording.proofs.lines.write_line.Given as goal

abbrev pub invariant-loop-text : goal.invariant-loop-text
invariant-loop-text l = Lining l.parts l.initial.out l.at l.out l.end l.text-index
