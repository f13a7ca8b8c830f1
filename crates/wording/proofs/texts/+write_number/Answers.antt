-- The digits before the last one are none or those of a tenth of the number; the last one fits behind them.
use Rattle.std.proofs.Common.{arith}
use Rattle.wording.proofs.WrittenLaws.{one_digit, more_digits}
use Rattle.wording.proofs.texts.+write_number.Goals as goal
use Rattle.wording.proofs.texts.+write_number.Goals.{then-n-lt10, else-n-lt10}

pub bounds-out-last : goal.bounds-out-last
bounds-out-last t c = elim c.if-n-lt10.branch [
  | then-n-lt10 w ↦ rw (w.out-is, w.last-is) (one_digit _ _ _ (omega arith) c.requires).0
  | else-n-lt10 w ↦ rw (w.out-is, w.last-is) (more_digits _ _ _ _ _ (omega arith) w.write_number-last.ensures c.requires).0
]

pub returns : goal.returns
returns t c = elim c.if-n-lt10.branch [
  | then-n-lt10 w ↦ rw (w.out-is, w.last-is) (one_digit _ _ _ (omega arith) c.requires).1
  | else-n-lt10 w ↦ rw (w.out-is, w.last-is) (more_digits _ _ _ _ _ (omega arith) w.write_number-last.ensures c.requires).1
]
