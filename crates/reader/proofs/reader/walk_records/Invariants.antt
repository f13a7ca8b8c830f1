use Rattle.std.proofs.Common.{◌≡◌, ◌-◌, length}
use Rattle.reader.proofs.WalkLaws.{AtRecord}
use Rattle.reader.proofs.reader.walk_records.Given as goal

abbrev pub invariant-loop-here : goal.invariant-loop-here
invariant-loop-here l = record { same_table : l.here.table.now ≡ l.t; walked : AtRecord l.t l.count l.here.at }

abbrev pub decreases-loop-here : goal.decreases-loop-here
decreases-loop-here l = length l.t - l.here.at
