use Rattle.std.proofs.Common.{◌∙◌, arith}
use Rattle.writer.proofs.WordLaws.{product-is}
use Rattle.writer.proofs.words.Row.product.Goals as goal

pub returns : goal.returns
returns c = c.product_of.ensures ∙ product-is _ _ _ (omega arith)
