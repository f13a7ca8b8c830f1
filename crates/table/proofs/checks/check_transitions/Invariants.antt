use Rattle.std.proofs.Common.{◌≡◌, ◌-◌, length}
use Rattle.table.proofs.TurnLaws.{AtTransition}
use Rattle.table.proofs.checks.check_transitions.Given as goal

abbrev pub invariant-loop-here : goal.invariant-loop-here
invariant-loop-here l = record { same_table : l.here.table.now ≡ l.t; walked : AtTransition l.t l.h l.count l.here.at }

abbrev pub decreases-loop-here : goal.decreases-loop-here
decreases-loop-here l = length l.t - l.here.at
