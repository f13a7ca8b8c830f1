use Rattle.std.proofs.Common.{arith}
use Rattle.work.proofs.AppendLaws.{row_written}
use Rattle.work.proofs.appending.append_row.Goals as goal

pub returns : goal.returns
returns c = row_written _ _ _ _ _ _ _ _ _ (omega arith) (omega arith) c.write_head.ensures c.next_channels.ensures
