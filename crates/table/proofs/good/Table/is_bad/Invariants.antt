use Rattle.std.proofs.Common.{◌-◌}
use Rattle.table.proofs.BadLaws.{Halving}
use Rattle.table.proofs.good.Table.is_bad.Given as goal

abbrev pub invariant-loop-low : goal.invariant-loop-low
invariant-loop-low l = Halving l.self.bytes.now l.self.shape l.state l.low l.high

abbrev pub decreases-loop-low : goal.decreases-loop-low
decreases-loop-low l = l.high - l.low
