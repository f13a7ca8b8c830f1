use Rattle.std.proofs.Common.{◌≡◌, ◌-◌, length}
use Rattle.table.proofs.TurnLaws.{AtBad}
use Rattle.table.proofs.checks.check_bads.Given as goal

abbrev pub invariant-loop-here : goal.invariant-loop-here
invariant-loop-here l = record { same_table : l.here.table.now ≡ l.t; walked : AtBad l.t l.states l.from l.count l.here.at l.low }

abbrev pub decreases-loop-here : goal.decreases-loop-here
decreases-loop-here l = length l.t - l.here.at
