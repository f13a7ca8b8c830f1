use Rattle.back.proofs.MoveLaws.{Stripping}
use Rattle.back.proofs.moves.Rebuilding.strip_sends.Given as goal

abbrev pub invariant-loop-self : goal.invariant-loop-self
invariant-loop-self l = Stripping l.channel l.message l.x l.initial.self l.self

abbrev pub decreases-loop-self : goal.decreases-loop-self
decreases-loop-self l = l.self.run.at
