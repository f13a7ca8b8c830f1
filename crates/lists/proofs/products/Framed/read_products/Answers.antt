use Rattle.std.proofs.Common.{arith}
use Rattle.common.proofs.ResultLaws.{left_err}
use Rattle.lists.proofs.ProductLaws.{products-on, products-fail}
use Rattle.lists.proofs.products.Framed.read_products.Goals as goal

pub returns-in_err-next : goal.returns-in_err-next
returns-in_err-next c =
    rw (left_err _ c.from_residual.ensures.1) (products-fail c.loop-c.invariant (omega arith) _ c.in_err-next.ensures)

pub loop-c-preserved : goal.loop-c-preserved
loop-c-preserved c =
    products-on c.loop-c.invariant (omega arith) (omega arith) (omega arith) (omega arith) _ _
    c.in_ok-next.ensures
