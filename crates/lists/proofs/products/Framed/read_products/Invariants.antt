use Rattle.lists.specs.Loading.{products}
use Rattle.lists.proofs.ProductLaws.{ProductsAt}
use Rattle.lists.proofs.products.Framed.read_products.Given as goal

abbrev pub invariant-loop-c : goal.invariant-loop-c
invariant-loop-c l = ProductsAt l.self.frame l.self.list.now l.fn.from l.channels l.first (products l.initial.starts l.initial.atoms) (products l.starts l.atoms) l.c l.next
