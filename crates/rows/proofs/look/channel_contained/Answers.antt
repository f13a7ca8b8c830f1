use Rattle.rows.proofs.LookLaws.{changed-channel, other-channel}
use Rattle.rows.proofs.look.channel_contained.Goals as goal

pub returns-then-c-outcome : goal.returns-then-c-outcome
returns-then-c-outcome g c = changed-channel _ _ _ _ c.product-there.ensures c.if-c-outcome.true c.contained.ensures

pub returns : goal.returns
returns g c = other-channel _ _ _ _ c.product-there.ensures c.if-c-outcome.false c.product.ensures c.contained-2.ensures
