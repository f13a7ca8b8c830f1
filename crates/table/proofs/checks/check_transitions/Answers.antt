-- The invariant: what the walk finds from here is what it finds from the start.
use Rattle.std.proofs.Common.{arith}
use Rattle.table.proofs.TurnLaws.{transitions-start, transitions-done, transitions-end, transitions-fail, transitions-next}
use Rattle.table.proofs.checks.check_transitions.Goals as goal

pub loop-here-init : goal.loop-here-init
loop-here-init c = rw (c.before-here.ensures.1) (record { same_table = cc; walked = transitions-start _ _ })

pub loop-here-preserved : goal.loop-here-preserved
loop-here-preserved c = record {
  same_table = c.loop-here.invariant.same_table;
  walked = transitions-next _ _ c.loop-here.invariant.walked (omega arith)
      (rw (c.in-Ok-true.field-0-test, c.loop-here.invariant.same_table) at c.in-Ok-true.ensures);
}

pub returns-in-Ok-false : goal.returns-in-Ok-false
returns-in-Ok-false c =
    transitions-end _ _ c.loop-here.invariant.walked (omega arith)
    (rw (c.in-Ok-false.field-0-test, c.loop-here.invariant.same_table) at c.in-Ok-false.ensures)

pub returns-in-Err : goal.returns-in-Err
returns-in-Err c = transitions-fail _ _ c.loop-here.invariant.walked (omega arith) _ (rw c.loop-here.invariant.same_table at c.in-Err.ensures)

pub returns : goal.returns
returns c = transitions-done _ _ c.loop-here.invariant.walked (omega arith)
