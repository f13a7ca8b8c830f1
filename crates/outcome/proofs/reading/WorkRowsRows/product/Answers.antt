use Rattle.std.proofs.Common.{◌∙◌, refl, arith}
use Rattle.outcome.proofs.LookLaws.{product-there, product-few}
use Rattle.outcome.proofs.reading.WorkRowsRows.product.Goals as goal

pub returns : goal.returns
returns c =
    let e = c.product_of.ensures ∙ product-there c.args.self.now.words.now c.args.r c.args.c _ (omega arith) refl in
    record {
      atoms = e;
      few = rw e (product-few _ _ _ _ c.args.self.now.sized (omega arith) (omega arith));
    }
