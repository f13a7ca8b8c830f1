use Rattle.std.proofs.Common.{arith}
use Rattle.judge.proofs.LookLaws.{product-read}
use Rattle.judge.proofs.memory.Products.product.Goals as goal

pub returns-clause-atoms : goal.returns-clause-atoms
returns-clause-atoms c = product-read _ _ _ _ _ _ _ (omega arith) c.places-from.ensures.told
