use Rattle.std.proofs.Common.{arith}
use Rattle.work.proofs.AppendLaws.{started}
use Rattle.work.proofs.appending.start_row.Goals as goal

pub returns : goal.returns
returns c = started _ _ _ _ (omega arith) c.write_head.ensures (c.fill.ensures.after (λ y h. h))
