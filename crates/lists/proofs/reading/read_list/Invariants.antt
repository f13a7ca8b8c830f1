use Rattle.std.proofs.Common.{◌-◌, length}
use Rattle.lists.specs.Loading.{memory}
use Rattle.lists.proofs.ListLaws.{RowsAt}
use Rattle.lists.proofs.reading.read_list.Given as goal

abbrev pub invariant-loop-at : goal.invariant-loop-at
invariant-loop-at l = RowsAt l.s l.list (memory l.initial.states l.initial.starts l.initial.atoms) (memory l.states l.starts l.atoms) l.at l.m

abbrev pub decreases-loop-at : goal.decreases-loop-at
decreases-loop-at l = length l.list - l.at
