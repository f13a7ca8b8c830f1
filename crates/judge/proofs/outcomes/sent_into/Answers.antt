use Rattle.std.proofs.Common.{arith}
use Rattle.judge.proofs.OutcomeLaws.{sent-made}
use Rattle.judge.proofs.outcomes.sent_into.Goals as goal

pub returns : goal.returns
returns c = sent-made _ _ _ _ c.copy_from_slice.ensures.after (omega arith) (omega arith)
