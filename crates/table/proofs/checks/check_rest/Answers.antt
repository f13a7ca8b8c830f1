-- At most 1,024 transitions are counted, so the place behind them fits.
use Rattle.std.proofs.Common.{arith}
use Rattle.table.proofs.ScanLaws.{few-counted}
use Rattle.table.proofs.checks.check_rest.Goals as goal

pub overflow_mul-transitions : goal.overflow_mul-transitions
overflow_mul-transitions c = omega (arith, few-counted _ _ _ c.in_ok-transitions.ensures)

pub overflow_add-transitions : goal.overflow_add-transitions
overflow_add-transitions c = omega (arith, few-counted _ _ _ c.in_ok-transitions.ensures)
