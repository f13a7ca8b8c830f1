use Rattle.std.proofs.Common.{arith}
use Rattle.common.proofs.ResultLaws.{left_err}
use Rattle.lists.proofs.AtomLaws.{atoms-fail}
use Rattle.lists.proofs.products.Framed.read_atoms.Goals as goal

pub returns-in_err-atoms : goal.returns-in_err-atoms
returns-in_err-atoms c =
    rw (left_err _ c.from_residual.ensures.1) (atoms-fail c.loop-k.invariant (omega arith) _ c.in_err-atoms.ensures)
