-- The invariant: what the walk finds from here is what it finds from the start.
use Rattle.std.proofs.Common.{arith}
use Rattle.table.proofs.TurnLaws.{bads-start, bads-done, bads-fail, bads-next}
use Rattle.table.proofs.checks.check_bads.Goals as goal

pub loop-here-init : goal.loop-here-init
loop-here-init c = rw (c.before-here.ensures.1) (record { same_table = cc; walked = bads-start _ _ _ })

pub loop-here-preserved : goal.loop-here-preserved
loop-here-preserved c = record {
  same_table = c.loop-here.invariant.same_table;
  walked = bads-next _ _ _ c.loop-here.invariant.walked (omega arith) _ (rw c.loop-here.invariant.same_table at c.in-Ok.ensures);
}

pub returns-in-Err : goal.returns-in-Err
returns-in-Err c = bads-fail _ _ _ c.loop-here.invariant.walked (omega arith) _ (rw c.loop-here.invariant.same_table at c.in-Err.ensures)

pub returns : goal.returns
returns c = bads-done _ _ _ c.loop-here.invariant.walked (omega arith)
