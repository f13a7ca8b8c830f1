use Rattle.std.proofs.Common.{arith}
use Rattle.work.proofs.WritingLaws.{channel-written}
use Rattle.work.proofs.writing.write_channel.Goals as goal

pub returns : goal.returns
returns c =
    channel-written _ _ _ _ _ _ _ (omega arith) (omega arith) (omega arith) (omega arith) c.copy_from_slice.ensures.after (c.fill.ensures.after (λ y h. h))
