use Rattle.std.proofs.Common.{arith}
use Rattle.judge.proofs.LookLaws.{places-told, places-range}
use Rattle.judge.proofs.memory.Products.places.Goals as goal

pub returns-clause-told : goal.returns-clause-told
returns-clause-told c = places-told _ _ _ _ _ c.product_number-number.ensures

pub returns-clause-range : goal.returns-clause-range
returns-clause-range c = places-range _ _ _ _ _ c.product_number-number.ensures _ _ c.args.self.now.sized (omega arith) (omega arith)
