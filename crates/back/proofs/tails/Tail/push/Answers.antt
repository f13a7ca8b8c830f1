use Rattle.std.proofs.Common.{arith, refl}
use Rattle.back.proofs.NeedLaws.{push-made}
use Rattle.back.proofs.tails.Tail.push.Goals as goal

pub returns : goal.returns
returns c = push-made _ _ _ (omega arith) refl refl
