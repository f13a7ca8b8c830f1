-- Where all tests pass, what is stored is the row.
use Rattle.std.proofs.Common.{arith}
use Rattle.lists.specs.Steps.{RowTold}
use Rattle.lists.proofs.RowLaws.{row_read}
use Rattle.lists.proofs.records.read_payload.Goals as goal

pub returns : goal.returns
unfolding RowTold
returns c =
    row_read _ _ _ _ _ c.number_at-state.ensures (omega arith) (omega arith) _ _ _ _ (omega arith) (omega arith) (omega (arith, c.requires.3.states_fit)) (omega arith)
    c.in_ok-next.ensures
