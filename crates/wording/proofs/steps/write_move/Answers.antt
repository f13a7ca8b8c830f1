-- The transition of that number, where the table has it, is the move that is told.
use Rattle.std.proofs.Common.{arith}
use Rattle.wording.proofs.StepLaws.{move-told, move-absent}
use Rattle.wording.proofs.steps.write_move.Goals as goal

pub returns-then-step-table : goal.returns-then-step-table
returns-then-step-table c =
    move-told _ _ c.args.table.now.good _ _ _ _ _ _ _ (omega arith) c.transition-operation.ensures (rw c.happened.ensures at c.write_bytes.ensures)

pub returns : goal.returns
returns c = move-absent _ _ c.args.table.now.good _ _ _ _ (omega arith) (omega arith)
