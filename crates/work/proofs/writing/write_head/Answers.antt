use Rattle.std.proofs.Common.{arith}
use Rattle.common.proofs.CopyLaws.{put-copy}
use Rattle.work.proofs.writing.write_head.Goals as goal

pub returns : goal.returns
returns c = put-copy _ _ _ _ c.copy_from_slice.ensures.after (omega arith)
