use Rattle.std.proofs.Common.{arith}
use Rattle.back.proofs.NeedLaws.{put-made}
use Rattle.back.proofs.needs.Needs.put_front.Goals as goal

pub returns : goal.returns
returns c = put-made _ _ _ (omega arith) (c.requires.2)
