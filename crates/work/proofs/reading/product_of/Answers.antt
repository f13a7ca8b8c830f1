use Rattle.work.proofs.LayoutLaws.{product-place}
use Rattle.work.proofs.reading.product_of.Goals as goal

pub returns : goal.returns
returns c = product-place _ _ _ _ _ c.count_place-first.ensures c.count_of.ensures
