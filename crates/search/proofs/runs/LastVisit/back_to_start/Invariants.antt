use Rattle.search.proofs.RunLaws.{Backing}
use Rattle.search.proofs.runs.LastVisit.back_to_start.Given as goal

abbrev pub invariant-loop-row : goal.invariant-loop-row
invariant-loop-row l = Backing l.fn.self l.initial.rebuilding l.rebuilding l.row

abbrev pub decreases-loop-row : goal.decreases-loop-row
decreases-loop-row l = l.row
