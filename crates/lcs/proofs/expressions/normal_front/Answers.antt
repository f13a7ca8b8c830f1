use Rattle.std.proofs.Common.{arith}
use Rattle.lcs.proofs.ExpressionLaws.{normal-made}
use Rattle.lcs.proofs.expressions.normal_front.Goals as goal

pub returns : goal.returns
returns c = normal-made _ _ _ c.copy_from_slice.ensures.after c.normalise-count.ensures (omega arith) (omega arith) c.copy_from_slice-2.ensures.after
