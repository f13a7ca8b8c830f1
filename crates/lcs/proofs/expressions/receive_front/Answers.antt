use Rattle.std.proofs.Common.{arith, ◌∙◌}
use Rattle.common.proofs.CopyLaws.{front-within}
use Rattle.lcs.proofs.ExpressionLaws.{receive-left}
use Rattle.lcs.proofs.expressions.receive_front.Goals as goal

pub returns-in-Some : goal.returns-in-Some
returns-in-Some c = receive-left _ _ _ _ c.in-Some.ensures.what_is_left (c.copy_within.ensures.after ∙ front-within _ _ _ (omega arith))
