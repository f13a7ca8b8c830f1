use Rattle.std.proofs.Common.{arith}
use Rattle.search.proofs.RunLaws.{turn, backing-on, backing-ends}
use Rattle.search.proofs.runs.LastVisit.back_to_start.Goals as goal

pub back_over-requires : goal.back_over-requires
back_over-requires c =
    let a = turn _ _ _ _ c.loop-row.invariant (omega arith) _ c.move_of.ensures in
    record { there = a.move; few_needed = a.few_needed; room = a.room }

pub loop-row-preserved : goal.loop-row-preserved
loop-row-preserved c = backing-on _ _ _ _ c.loop-row.invariant (omega arith) _ c.move_of.ensures _ _ c.parent_of-row.ensures c.back_over.ensures

pub returns-clause-words : goal.returns-clause-words
returns-clause-words c = backing-ends _ _ _ _ c.loop-row.invariant (omega arith)
