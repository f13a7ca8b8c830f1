use Rattle.std.proofs.Common.{sym, arith}
use Rattle.lcs.proofs.ExpressionLaws.{receive-over}
use Rattle.lcs.proofs.expressions.lcs_receive.Goals as goal

pub returns-then-message-gt14 : goal.returns-then-message-gt14
returns-then-message-gt14 c =
    let told = receive-over _ _ (sym c.if-not-is_product.ensures) (omega arith) in
    record { value = told.0; p_after = told.1 }
